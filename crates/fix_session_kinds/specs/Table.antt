-- What a message of each kind means: its tags in order, or the reason of the first that is at fault.
use Rattle.std.specs.Prelude.{ℕ, Bool, ◌||◌, ◌==◌, nat_le, nat_lt, length, List, [], ◌∷◌, find, is_none, Option, Some, None, Result, Ok, Err, ok_or, if◌then◌else◌, codes}
use Rattle.std.specs.Result.{result_map_both}
use Rattle.std.specs.Str.{bytes_eq}
use Rattle.spread_rules_ids.specs.Ids.{id_of}
use Rattle.spread_rules_ids.specs.declared.limits.TheConstants.{FIRST_MSG_SEQ_NUM}
use Rattle.spread_rules.specs.declared.order.Side.TheVariants.{Buy, Sell}
use Rattle.spread_rules.specs.declared.codes.session_reject_reason.TheConstants as reject
use Rattle.spread_rules.specs.declared.event.Ticket.{Ticket}
use Rattle.spread_rules.specs.declared.event.Event.TheVariants as events
use Rattle.spread_rules.specs.declared.codes.side.TheConstants as side_value
use Rattle.fix_wire_frames.specs.declared.field_values.TheConstants as field_values
use Rattle.fix_wire_frames.specs.declared.msg_types.TheConstants as msg_types
use Rattle.fix_wire_frames.specs.declared.tags.TheConstants as tags
use Rattle.fix_wire_values.specs.declared.values.Unread.{Unread}
use Rattle.fix_wire_values.specs.declared.values.Unread.TheVariants.{Format, Range}
use Rattle.fix_wire_values.specs.Values.{number_in, quantity_in, price_in}
use Rattle.fix_wire_frames.specs.Messages.{get, kind}
use Rattle.fix_session_kinds.specs.declared.table.Meaning.{Meaning}
use Rattle.fix_session_kinds.specs.declared.table.Meaning.TheVariants.{Nothing, Says, GapFill}

infixl 10 ◌>>=◌
abbrev pub ◌>>=◌ : {A B : Type 0} → Result A ℕ → (A → Result B ℕ) → Result B ℕ
(Ok x) >>= f = f x
(Err e) >>= f = Err e

-- ---- one field

-- the value of a field, which has to stand and hold something
abbrev pub value_at : ℕ → List ℕ → Result (List ℕ) ℕ
value_at tag m =
    ok_or (get tag m) reject.REQUIRED_TAG_MISSING >>= λ text.
    if nat_lt 0 (length text) then Ok text else Err reject.TAG_WITHOUT_VALUE

abbrev pub id_at : ℕ → List ℕ → Result (List ℕ) ℕ
id_at tag m = value_at tag m >>= λ text. ok_or (id_of text) reject.VALUE_OUT_OF_RANGE

-- why a value that can't be read is rejected
abbrev pub reason_of : Unread → ℕ
reason_of Format = reject.INCORRECT_FORMAT
reason_of Range = reject.VALUE_OUT_OF_RANGE

-- a number, a quantity or a price, by the reader of its text
abbrev pub read_at : {A : Type 0} → (List ℕ → Result A Unread) → ℕ → List ℕ → Result A ℕ
read_at reader tag m =
    value_at tag m >>= λ text. result_map_both (λ x. x) reason_of (reader text)

-- a number for which the test holds
abbrev pub number_at : (ℕ → Bool) → ℕ → List ℕ → Result ℕ ℕ
number_at test tag m =
    read_at number_in tag m >>= λ n. if test n then Ok n else Err reject.VALUE_OUT_OF_RANGE

-- one of the bytes that are allowed, and nothing else
abbrev pub choice_at : List ℕ → ℕ → List ℕ → Result ℕ ℕ
choice_at allowed tag m =
    value_at tag m >>= λ text.
    ok_or (find (λ a. bytes_eq text (a ∷ [])) allowed) reject.VALUE_OUT_OF_RANGE

-- the same, and another answer where the tag is missing
abbrev pub choice_or : Result ℕ ℕ → List ℕ → ℕ → List ℕ → Result ℕ ℕ
choice_or missing allowed tag m =
    if is_none (get tag m) then missing else choice_at allowed tag m

-- ---- one kind, its SendingTime apart

unfoldable pub test_request : List ℕ → Result Meaning ℕ
test_request m = id_at tags.TEST_REQ_ID m >>= λ text. Ok (Says (events.TestReply text))

unfoldable pub resend_request : List ℕ → Result Meaning ℕ
resend_request m = do
  first ← number_at (λ n. nat_le FIRST_MSG_SEQ_NUM n) tags.BEGIN_SEQ_NO m
  -- 0 asks for all that follow
  last ← number_at (λ n. (n == 0) || nat_le first n) tags.END_SEQ_NO m
  Ok (Says (events.Resend first last))

-- a gap fill of the message with number n
unfoldable pub sequence_reset : List ℕ → ℕ → Result Meaning ℕ
sequence_reset m n = do
  next ← number_at (λ new. nat_lt n new) tags.NEW_SEQ_NO m
  -- a gap fill has to say so: without the tag it isn't one
  flag ← choice_or (Err reject.VALUE_OUT_OF_RANGE) (codes "Y") tags.GAP_FILL_FLAG m
  Ok (GapFill next)

unfoldable pub new_order : List ℕ → Result Ticket ℕ
new_order m = do
  id ← id_at tags.CL_ORD_ID m
  handling ← choice_at (codes "123") tags.HANDL_INST m
  symbol ← id_at tags.SYMBOL m
  side ← choice_at (codes "12") tags.SIDE m
  time ← value_at tags.TRANSACT_TIME m
  quantity ← read_at quantity_in tags.ORDER_QTY m
  type ← choice_at (codes "2") tags.ORD_TYPE m
  price ← read_at price_in tags.PRICE m
  -- a day order, where the tag is missing
  time_in_force ← choice_or (Ok field_values.DAY) (codes "03") tags.TIME_IN_FORCE m
  Ok (record {
    id = id;
    symbol = symbol;
    side = if side == side_value.BUY then Buy else Sell;
    quantity = quantity;
    price = price;
    immediate = time_in_force == field_values.IMMEDIATE_OR_CANCEL;
  })

unfoldable pub cancel_request : List ℕ → Result Meaning ℕ
cancel_request m = do
  original ← id_at tags.ORIG_CL_ORD_ID m
  id ← id_at tags.CL_ORD_ID m
  symbol ← id_at tags.SYMBOL m
  side ← choice_at (codes "12") tags.SIDE m
  time ← value_at tags.TRANSACT_TIME m
  Ok (Says (events.Cancel id original))

-- the id of an order, and then all that a new order says
unfoldable pub replace_request : List ℕ → Result Meaning ℕ
replace_request m = do
  original ← id_at tags.ORIG_CL_ORD_ID m
  ticket ← new_order m
  Ok (Says (events.Replace original ticket))

-- ---- the table

-- what the message with number n says by its kind, which is the one for which the test holds; None where it is another
abbrev pub meaning_by : (ℕ → Bool) → List ℕ → ℕ → Option (Result Meaning ℕ)
meaning_by is m n =
    if is msg_types.HEARTBEAT || is msg_types.REJECT then Some (Ok Nothing)
    else (if is msg_types.TEST_REQUEST then Some (test_request m)
    else (if is msg_types.RESEND_REQUEST then Some (resend_request m)
    else (if is msg_types.SEQUENCE_RESET then Some (sequence_reset m n)
    else (if is msg_types.NEW_ORDER_SINGLE
    then Some (new_order m >>= λ ticket. Ok (Says (events.New ticket)))
    else (if is msg_types.ORDER_CANCEL_REQUEST then Some (cancel_request m)
    else (if is msg_types.ORDER_CANCEL_REPLACE_REQUEST then Some (replace_request m)
    else None))))))

-- What an accepted message with number n means, where it is neither the Logon nor a Logout: what it says by its kind,
-- where that is known and SendingTime stands, which is looked at before other tags.
abbrev pub meaning_of_message : List ℕ → ℕ → Result Meaning ℕ
meaning_of_message m n = if length (kind m) == 0 then Err reject.TAG_WITHOUT_VALUE else do
  said ← ok_or (meaning_by (λ type. bytes_eq (kind m) (type ∷ [])) m n) reject.INVALID_MSG_TYPE
  stamp ← value_at tags.SENDING_TIME m
  said
