-- What a Logon says, as the code reads it.
-- Words of the code alone.
use Rattle.std.specs.Prelude.{ℕ, Bool, ◌&&◌, not, ◌==◌, List, [], ◌∷◌, Option, Some, None, option_and_then, is_ok, if◌then◌else◌, codes}
use Rattle.std.specs.Option.{option_eq}
use Rattle.std.specs.Str.{bytes_eq}
use Rattle.spread_rules_ids.specs.Ids.{id_of}
use Rattle.spread_rules_ids.specs.declared.limits.TheConstants.{FIRST_MSG_SEQ_NUM}
use Rattle.fix_wire_frames.specs.declared.msg_types.TheConstants as msg_types
use Rattle.fix_wire_frames.specs.declared.tags.TheConstants as tags
use Rattle.fix_wire_frames.specs.Messages.{get, kind}
use Rattle.fix_wire_frames.specs.code.Messages.{given_number}
use Rattle.fix_session_kinds.specs.Table.{value_at}
use Rattle.fix_session_judging.specs.declared.session.Logon.{Logon}

infixl 10 ◌>>=◌
abbrev pub ◌>>=◌ : {A B : Type 0} → Option A → (A → Option B) → Option B
x >>= f = option_and_then f x

-- the id that a tag has
abbrev pub given_id : ℕ → List ℕ → Option (List ℕ)
given_id tag m = get tag m >>= id_of

-- a Logon with the first number, a sending time, and no encryption
abbrev pub is_opening : List ℕ → ℕ → Bool
is_opening m n =
    bytes_eq (kind m) (msg_types.LOGON ∷ []) && (n == FIRST_MSG_SEQ_NUM)
    && is_ok (value_at tags.SENDING_TIME m)
    && option_eq bytes_eq (get tags.ENCRYPT_METHOD m) (Some (codes "0"))

-- what a lawful Logon says
unfoldable pub logon_by_parts : List ℕ → ℕ → Option Logon
logon_by_parts m n = if not (is_opening m n) then None else do
  client ← given_id tags.SENDER_COMP_ID m
  host ← given_id tags.TARGET_COMP_ID m
  beat ← given_number tags.HEART_BT_INT m
  Some (record { client = client; host = host; beat = beat })
