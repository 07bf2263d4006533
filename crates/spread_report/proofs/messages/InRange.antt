-- Every message of an entry in range is in range.
use Rattle.std.proofs.Common.{◌≡◌, ◌≢◌, ℕ, ◌+◌, ◌*◌, ◌<◌, ◌≤◌, ◌^◌, ◌==◌, Bool, true, false, ◌&&◌, if◌then◌else◌, List, [], ◌∷◌, ◌++◌, length, get_or, codes, refl, arith, Option, Some, None, length-append}
use Rattle.std.specs.Prelude.{ℤ, unsigned_abs, nat_le, option_map, option_to_list}
use Rattle.std.specs.List.{AllByRecursion}
use Rattle.std.proofs.lemmas.Bool.{leb-true, and_parts}
use Rattle.std.proofs.lemmas.Bool.Decides.{nat_tests}
use Rattle.fix_wire.specs.declared.writer.Field.{Field}
use Rattle.spread_rules_ids.specs.Ids.{is_id, is_plain}
use Rattle.spread_rules_rulebook.specs.Rulebook.{Rules, IsListed, month_count, names_of, symbol_of}
use Rattle.spread_rules.specs.Journal.{FitsEvent, FitsTicket, is_reject_reason}
use Rattle.spread_rules.specs.Legs.{other_side}
use Rattle.spread_rules.specs.declared.order.Order.{Order}
use Rattle.spread_rules.specs.declared.order.Side.{Side}
use Rattle.spread_rules.specs.declared.order.Side.TheVariants.{Buy, Sell}
use Rattle.spread_rules_rulebook.specs.declared.instrument.Instrument.{Instrument}
use Rattle.spread_rules_rulebook.specs.declared.instrument.Instrument.TheVariants.{Outright, Spread}
use Rattle.spread_rules.specs.declared.fill.Fill.{Fill}
use Rattle.spread_rules.specs.declared.event.Ticket.{Ticket}
use Rattle.spread_rules.specs.declared.event.Event.{Event}
use Rattle.spread_rules.specs.declared.event.Event.TheVariants.{Logon, New, Cancel, Replace, TestReply, Gap, Resend, Reject, Close}
use Rattle.spread_rules.specs.declared.outcome.Outcome.{Outcome}
use Rattle.spread_rules.specs.declared.outcome.Outcome.TheVariants.{Rested, Filled, Ended, Cancelled, Replaced, Refused, CancelRefused, Session}
use Rattle.spread_report_outbound.specs.Steps.{OutgoingStep, logged_on, numbered, gap_fill}
use Rattle.spread_report_orders.specs.ExecutionReports.{ExecutionReport, new_report, fill_report, fill_reports, fills_reports}
use Rattle.spread_report.specs.EntryMessages.{entry_reports, order_cancel_reject, close_steps, event_steps}
use Rattle.spread_report_outbound.specs.code.Addressed.{AddressedStep, steps_to}
use Rattle.spread_report_orders.specs.code.Reports.{report, reports_from, rejected_report, ended_report, cancelled_report, replaced_report, report_count, reports_of}
use Rattle.spread_report.specs.code.Addressed.{entry_messages}
use Rattle.spread_report.specs.code.Reports.{place_field}
use Rattle.spread_report_orders.proofs.OneFillMore.{reports_length}
use Rattle.spread_report_fields.specs.code.Fields.{text_field, number_field, price_field, pair_field}
use Rattle.fix_wire.specs.Layout.{field}
use Rattle.fix_wire.specs.declared.writer.Value.TheVariants.{Text, Number}
use Rattle.spread_report_fields.specs.Codes.{side_code}
use Rattle.spread_report.specs.Outgoing.{AppliedEntry}
use Rattle.spread_report.specs.Ranges.{AreNames, FillInRange, OutcomeInRange, EntryInRange}
use Rattle.spread_report.proofs.frames.BodyLengths.{FitsReport}
use Rattle.spread_report_fields.proofs.SymbolIds.{joined_id}

-- ---- ids

pub id_plain : (t : List ℕ) → is_id t ≡ true → is_plain t ≡ true
id_plain t e = (and_parts (nat_le 1 (length t) && nat_le (length t) 32) (is_plain t) e).1

pub id_short : (t : List ℕ) → is_id t ≡ true → length t ≤ 32
id_short t e = leb-true (length t) 32 (and_parts (nat_le 1 (length t)) (nat_le (length t) 32)
    (and_parts (nat_le 1 (length t) && nat_le (length t) 32) (is_plain t) e).0).1

-- ---- contents

-- CompIDs that are ids; at most 18 fields in range, under a kind that isn't byte 1
abbrev pub FitsStep : OutgoingStep → Type 0
FitsStep (logged_on ids) = (is_id ids.client ≡ true) × (is_id ids.host ≡ true)
FitsStep (numbered kind fields) = (kind ≢ 1) × AllByRecursion FitsReport fields × (length fields ≤ 18)
FitsStep (gap_fill first last) = Unit {0}

abbrev pub FitsAddressed : AddressedStep → Type 0
FitsAddressed m = FitsStep m.step

text_fits : (tag : ℕ) (id : List ℕ) → 1 ≤ tag → tag < 1000000000 → is_id id ≡ true → FitsReport (text_field tag id)
text_fits tag id low high e = record { fits = (low, high, id_plain id e); short = id_short id e }

number_fits : (tag n : ℕ) → 1 ≤ tag → tag < 1000000000 → n < 2 ^ 64 → FitsReport (number_field tag n)
number_fits tag n low high h = record { fits = (low, high, h); short = tt }

price_fits : (tag : ℕ) (z : ℤ) → 1 ≤ tag → tag < 1000000000 → unsigned_abs z < 2 ^ 64 → FitsReport (price_field tag z)
price_fits tag z low high h = record { fits = (low, high, h); short = tt }

pair_fits : (tag a b : ℕ) → 1 ≤ tag → tag < 1000000000 → a < 2 ^ 64 → b < 2 ^ 64 → FitsReport (pair_field tag a b)
pair_fits tag a b low high h k = record { fits = (low, high, (h, k)); short = tt }

pub all_append : (ms ns : List AddressedStep) → AllByRecursion FitsAddressed ms → AllByRecursion FitsAddressed ns
    → AllByRecursion FitsAddressed (ms ++ ns)
all_append [] ns a b = b
all_append (m ∷ ms) ns a b = (a.0, all_append ms ns a.1 b)

-- ---- execution reports

abbrev OptionalId : Option (List ℕ) → Type 0
OptionalId None = Unit {0}
OptionalId (Some id) = is_id id ≡ true

abbrev OptionalNumber : Option ℕ → Type 0
OptionalNumber None = Unit {0}
OptionalNumber (Some n) = n < 2 ^ 64

abbrev Traded : Type 0
Traded = record { multi_leg : ℕ; fill : Fill }

abbrev TradedFits : Option Traded → Type 0
TradedFits None = Unit {0}
TradedFits (Some t) = (t.fill.quantity < 2 ^ 64) × (unsigned_abs t.fill.price < 2 ^ 64) × (t.multi_leg < 2 ^ 64)

record ReportFits (r : ExecutionReport) : Type 0 where
  order : r.order_id < 2 ^ 64
  id : is_id r.cl_ord_id ≡ true
  original : OptionalId r.orig_cl_ord_id
  status : r.ord_status < 2 ^ 64
  reason : OptionalNumber r.ord_rej_reason
  symbol : is_id r.symbol ≡ true
  quantity : r.order_qty < 2 ^ 64
  traded : TradedFits r.traded
  leaves : r.leaves_qty < 2 ^ 64
  filled : r.cum_qty < 2 ^ 64

-- a field that may be there
abbrev OptionFits : Option Field → Type 0
OptionFits None = Unit {0}
OptionFits (Some f) = FitsReport f

option_fits : (o : Option Field) → OptionFits o → AllByRecursion FitsReport (option_to_list o)
option_fits None h = tt
option_fits (Some f) h = (h, tt)

option_length : (o : Option Field) → length (option_to_list o) ≤ 1
option_length None = omega arith
option_length (Some f) = omega arith

fields_both : (fs gs : List Field) → AllByRecursion FitsReport fs → AllByRecursion FitsReport gs
    → AllByRecursion FitsReport (fs ++ gs)
fields_both [] gs a b = b
fields_both (f ∷ fs) gs a b = (a.0, fields_both fs gs a.1 b)

original_fits : (o : Option (List ℕ)) → OptionalId o → OptionFits (option_map (text_field 41) o)
original_fits None h = tt
original_fits (Some id) h = text_fits 41 id (omega arith) (omega arith) h

reason_fits : (o : Option ℕ) → OptionalNumber o → OptionFits (option_map (number_field 103) o)
reason_fits None h = tt
reason_fits (Some n) h = number_fits 103 n (omega arith) (omega arith) h

abbrev shares_of : Option Traded → Option Field
shares_of o = option_map (λ (t : Traded). number_field 32 t.fill.quantity) o

abbrev px_of : Option Traded → Option Field
px_of o = option_map (λ (t : Traded). price_field 31 t.fill.price) o

abbrev legs_of : Option Traded → Option Field
legs_of o = option_map (λ (t : Traded). number_field 442 t.multi_leg) o

shares_fit : (o : Option Traded) → TradedFits o → OptionFits (shares_of o)
shares_fit None h = tt
shares_fit (Some t) h = number_fits 32 t.fill.quantity (omega arith) (omega arith) h.0

px_fits : (o : Option Traded) → TradedFits o → OptionFits (px_of o)
px_fits None h = tt
px_fits (Some t) h = price_fits 31 t.fill.price (omega arith) (omega arith) h.1

legs_fit : (o : Option Traded) → TradedFits o → OptionFits (legs_of o)
legs_fit None h = tt
legs_fit (Some t) h = number_fits 442 t.multi_leg (omega arith) (omega arith) h.2

side_small : (s : Side) → side_code s < 2 ^ 64
side_small Buy = omega arith
side_small Sell = omega arith

module _ (place index : ℕ) (r : ExecutionReport) where
  abbrev id_part : List Field
  id_part = number_field 37 r.order_id ∷ text_field 11 r.cl_ord_id ∷ option_to_list
      (option_map (text_field 41) r.orig_cl_ord_id)

  abbrev status_part : List Field
  status_part = pair_field 17 place index ∷ number_field 20 0 ∷ number_field 150 r.ord_status ∷ number_field 39
      r.ord_status ∷ option_to_list (option_map (number_field 103) r.ord_rej_reason)

  abbrev order_part : List Field
  order_part = text_field 55 r.symbol ∷ number_field 54 (side_code r.side) ∷ number_field 38 r.order_qty ∷
      option_to_list (shares_of r.traded)

  abbrev px_part : List Field
  px_part = option_to_list (px_of r.traded)

  abbrev left_part : List Field
  left_part = number_field 151 r.leaves_qty ∷ number_field 14 r.cum_qty ∷ number_field 6 0 ∷ option_to_list
      (legs_of r.traded)

  abbrev all_parts : List Field
  all_parts = id_part ++ status_part ++ order_part ++ px_part ++ left_part

  report_fit : place < 2 ^ 64 → index < 2 ^ 64 → ReportFits r → AllByRecursion FitsReport all_parts
  report_fit p i h =
      let id_fits : AllByRecursion FitsReport id_part = (
        number_fits 37 r.order_id (omega arith) (omega arith) h.order,
        (
          text_fits 11 r.cl_ord_id (omega arith) (omega arith) h.id,
          option_fits (option_map (text_field 41) r.orig_cl_ord_id) (original_fits r.orig_cl_ord_id h.original),
        ),
      ) in
      let status_fits : AllByRecursion FitsReport status_part = (
        pair_fits 17 place index (omega arith) (omega arith) p i,
        (
          number_fits 20 0 (omega arith) (omega arith) (omega arith),
          (
            number_fits 150 r.ord_status (omega arith) (omega arith) h.status,
            (
              number_fits 39 r.ord_status (omega arith) (omega arith) h.status,
              option_fits (option_map (number_field 103) r.ord_rej_reason) (reason_fits r.ord_rej_reason h.reason),
            ),
          ),
        ),
      ) in
      let order_fits : AllByRecursion FitsReport order_part = (
        text_fits 55 r.symbol (omega arith) (omega arith) h.symbol,
        (
          number_fits 54 (side_code r.side) (omega arith) (omega arith) (side_small r.side),
          (
            number_fits 38 r.order_qty (omega arith) (omega arith) h.quantity,
            option_fits (shares_of r.traded) (shares_fit r.traded h.traded),
          ),
        ),
      ) in
      let left_fits : AllByRecursion FitsReport left_part = (
        number_fits 151 r.leaves_qty (omega arith) (omega arith) h.leaves,
        (
          number_fits 14 r.cum_qty (omega arith) (omega arith) h.filled,
          (
            number_fits 6 0 (omega arith) (omega arith) (omega arith),
            option_fits (legs_of r.traded) (legs_fit r.traded h.traded),
          ),
        ),
      ) in
      fields_both (id_part ++ status_part ++ order_part ++ px_part) left_part
      (fields_both (id_part ++ status_part ++ order_part) px_part
      (fields_both (id_part ++ status_part) order_part (fields_both id_part status_part id_fits status_fits)
      order_fits) (option_fits (px_of r.traded) (px_fits r.traded h.traded)))
      left_fits

  report_length : length all_parts ≤ 18
  report_length =
      let a = option_length (option_map (text_field 41) r.orig_cl_ord_id) in
      let b = option_length (option_map (number_field 103) r.ord_rej_reason) in
      let d = option_length (shares_of r.traded) in
      let e = option_length (px_of r.traded) in
      let f = option_length (legs_of r.traded) in
      let one = length-append id_part status_part in
      let two = length-append (id_part ++ status_part) order_part in
      let three = length-append (id_part ++ status_part ++ order_part) px_part in
      let all : length all_parts ≡ length (id_part ++ status_part ++ order_part ++ px_part) + length left_part =
      length-append (id_part ++ status_part ++ order_part ++ px_part) left_part in
      omega (arith, a, b, d, e, f, one, two, three, all)

  report_in_range : place < 2 ^ 64 → index < 2 ^ 64 → ReportFits r → FitsAddressed (report place index r)
  report_in_range p i h = (omega arith, report_fit p i h, report_length)

-- reports in order
reports_in_range : (place i : ℕ) (rs : List ExecutionReport) → place < 2 ^ 64 → i + length rs < 2 ^ 64
    → AllByRecursion ReportFits rs → AllByRecursion FitsAddressed (reports_from place i rs)
reports_in_range place i [] p few fit = tt
reports_in_range place i (r ∷ rs) p few fit = (
  report_in_range place i r p (omega (arith, few)) fit.0,
  reports_in_range place (i + 1) rs p (omega (arith, few)) fit.1,
)

more_reports : (rs qs : List ExecutionReport) → AllByRecursion ReportFits rs → AllByRecursion ReportFits qs
    → AllByRecursion ReportFits (rs ++ qs)
more_reports [] qs a b = b
more_reports (r ∷ rs) qs a b = (a.0, more_reports rs qs a.1 b)

-- ---- symbols

module _ (rules : Rules) (names : AreNames rules) where
  symbol_fits : (i : Instrument) → IsListed rules i → is_id (symbol_of rules i) ≡ true
  symbol_fits (Outright m) h = names.ids m h
  symbol_fits (Spread i j) h =
      let near : i < month_count rules = omega (arith, h.0, h.1) in
      joined_id (get_or (names_of rules) i []) (get_or (names_of rules) j [])
      (omega (arith, names.short i near, names.short j h.1))
      (id_plain (get_or (names_of rules) i []) (names.ids i near))
      (id_plain (get_or (names_of rules) j []) (names.ids j h.1))

  near_listed : (i j : ℕ) → IsListed rules (Spread i j) → IsListed rules (Outright i)
  near_listed i j h = omega (arith, h.0, h.1)

  -- ---- fills

  status_small : (b : Bool) → (if b then 2 else 1) < 2 ^ 64
  status_small true = omega arith
  status_small false = omega arith

  fill_fits : (multi_leg : ℕ) (f : Fill) → multi_leg < 2 ^ 64 → FillInRange rules f
      → ReportFits (fill_report rules multi_leg f)
  fill_fits multi_leg f small h = record {
    order = h.order;
    id = h.id;
    original = tt;
    status = status_small (f.leaves == 0);
    reason = tt;
    symbol = symbol_fits f.instrument h.listed;
    quantity = h.total;
    traded = (h.quantity, h.price, small);
    leaves = h.leaves;
    filled = omega (arith, h.total);
  }

  -- a leg of a fill in range
  leg_in_range : (f : Fill) (i : Instrument) (side : Side) (price : ℤ) → FillInRange rules f → IsListed rules i
      → unsigned_abs price < 2 ^ 64
      → FillInRange rules (record f { instrument = i; side = side; price = price })
  leg_in_range f i side price h listed small = record {
    listed = listed;
    order = h.order;
    id = h.id;
    quantity = h.quantity;
    total = h.total;
    leaves = h.leaves;
    price = small;
    near = h.near;
    far = h.far;
  }

  reports_fit : (k : Instrument) (f : Fill) → IsListed rules k → FillInRange rules f
      → AllByRecursion ReportFits (fill_reports rules f k)
  reports_fit (Outright m) f listed h = (fill_fits 1 f (omega arith) h, tt)
  reports_fit (Spread a b) f listed h = (
    fill_fits 3 f (omega arith) h,
    (
      fill_fits 2 (record f { instrument = Outright a; price = f.near }) (omega arith)
          (leg_in_range f (Outright a) f.side f.near h (near_listed a b listed) h.near),
      (
        fill_fits 2 (record f { instrument = Outright b; side = other_side f.side; price = f.far }) (omega arith)
            (leg_in_range f (Outright b) (other_side f.side) f.far h listed.1 h.far),
        tt,
      ),
    ),
  )

  fills_fit : (fs : List Fill) → AllByRecursion (FillInRange rules) fs
      → AllByRecursion ReportFits (fills_reports rules fs)
  fills_fit [] h = tt
  fills_fit (f ∷ fs) h = more_reports (fill_reports rules f f.instrument) (fills_reports rules fs)
      (reports_fit f.instrument f h.0.listed h.0) (fills_fit fs h.1)

  count_small : (k : Instrument) → report_count k ≤ 3
  count_small (Outright m) = omega arith
  count_small (Spread i j) = omega arith

  reports_small : (fs : List Fill) → reports_of fs ≤ 3 * length fs
  reports_small [] = omega arith
  reports_small (f ∷ fs) = omega (arith, count_small f.instrument, reports_small fs)

  fills_few : (fs : List Fill) → length (fills_reports rules fs) ≤ 3 * length fs
  fills_few fs = omega (arith, reports_length rules fs, reports_small fs)

  -- ---- entries

  new_fits : (session place : ℕ) (t : Ticket) → place < 2 ^ 64 → FitsTicket t → ReportFits (new_report session place t)
  new_fits session place t p h = record {
    order = p;
    id = h.id;
    original = tt;
    status = omega arith;
    reason = tt;
    symbol = h.symbol;
    quantity = omega (arith, h.quantity);
    traded = tt;
    leaves = omega (arith, h.quantity);
    filled = omega arith;
  }

  rejected_fits : (session place : ℕ) (t : Ticket) (reason : ℕ) → place < 2 ^ 64 → FitsTicket t → reason < 2 ^ 64
      → ReportFits (rejected_report session place t reason)
  rejected_fits session place t reason p h n = record {
    order = p;
    id = h.id;
    original = tt;
    status = omega arith;
    reason = n;
    symbol = h.symbol;
    quantity = omega (arith, h.quantity);
    traded = tt;
    leaves = omega arith;
    filled = omega arith;
  }

  ended_fits : (session place : ℕ) (t : Ticket) (left : ℕ) → place < 2 ^ 64 → FitsTicket t
      → ReportFits (ended_report session place t left)
  ended_fits session place t left p h = record {
    order = p;
    id = h.id;
    original = tt;
    status = omega arith;
    reason = tt;
    symbol = h.symbol;
    quantity = omega (arith, h.quantity);
    traded = tt;
    leaves = omega arith;
    filled = omega (arith, h.quantity);
  }

  cancelled_fits : (session : ℕ) (id original : List ℕ) (o : Order) → is_id id ≡ true → is_id original ≡ true
      → IsListed rules o.instrument → o.place < 2 ^ 64 → o.quantity < 2 ^ 64
      → ReportFits (cancelled_report (symbol_of rules o.instrument) session id original o)
  cancelled_fits session id original o e d listed op oq = record {
    order = op;
    id = e;
    original = d;
    status = omega arith;
    reason = tt;
    symbol = symbol_fits o.instrument listed;
    quantity = oq;
    traded = tt;
    leaves = omega arith;
    filled = omega (arith, oq);
  }

  replaced_fits : (session : ℕ) (id original : List ℕ) (o : Order) → is_id id ≡ true → is_id original ≡ true
      → IsListed rules o.instrument → o.place < 2 ^ 64 → o.quantity < 2 ^ 64 → o.leaves < 2 ^ 64
      → ReportFits (replaced_report (symbol_of rules o.instrument) session id original o)
  replaced_fits session id original o e d listed op oq ol = record {
    order = op;
    id = e;
    original = d;
    status = omega arith;
    reason = tt;
    symbol = symbol_fits o.instrument listed;
    quantity = oq;
    traded = tt;
    leaves = ol;
    filled = omega (arith, oq);
  }

  -- reports in range, at most two beside those of fills
  record AreFew (fs : List Fill) (rs : List ExecutionReport) : Type 0 where
    all : AllByRecursion ReportFits rs
    few : length rs ≤ 2 + 3 * length fs

  none_few : (fs : List Fill) → AreFew fs []
  none_few fs = record { all = tt; few = omega arith }

  one_few : (fs : List Fill) (r : ExecutionReport) → ReportFits r → AreFew fs (r ∷ [])
  one_few fs r h = record { all = (h, tt); few = omega arith }

  with_fills : (fs : List Fill) (r : ExecutionReport) → ReportFits r → AllByRecursion (FillInRange rules) fs
      → AreFew fs (r ∷ fills_reports rules fs)
  with_fills fs r h fits = record { all = (h, fills_fit fs fits); few = omega (arith, fills_few fs) }

  with_end : (fs : List Fill) (r q : ExecutionReport) → ReportFits r → ReportFits q
      → AllByRecursion (FillInRange rules) fs → AreFew fs (r ∷ (fills_reports rules fs ++ q ∷ []))
  with_end fs r q h k fits = record {
    all = (h, more_reports (fills_reports rules fs) (q ∷ []) (fills_fit fs fits) (k, tt));
    few = omega (arith, fills_few fs, length-append (fills_reports rules fs) (q ∷ []));
  }

  news_fit : (place session : ℕ) (t : Ticket) (outcome : Outcome) (fs : List Fill) → place < 2 ^ 64 → FitsTicket t
      → OutcomeInRange rules outcome → AllByRecursion (FillInRange rules) fs
      → AreFew fs (entry_reports rules place session (New t) outcome fs)
  news_fit place session t (Refused reason) fs p h o fits =
      one_few fs (rejected_report session place t reason) (rejected_fits session place t reason p h o)
  news_fit place session t Rested fs p h o fits = with_fills fs (new_report session place t)
      (new_fits session place t p h) fits
  news_fit place session t Filled fs p h o fits = with_fills fs (new_report session place t)
      (new_fits session place t p h) fits
  news_fit place session t (Ended left) fs p h o fits =
      with_end fs (new_report session place t) (ended_report session place t left) (new_fits session place t p h)
      (ended_fits session place t left p h) fits
  news_fit place session t (Cancelled x) fs p h o fits = none_few fs
  news_fit place session t (Replaced x) fs p h o fits = none_few fs
  news_fit place session t (CancelRefused reason of status) fs p h o fits = none_few fs
  news_fit place session t Session fs p h o fits = none_few fs

  cancels_fit : (place session : ℕ) (id original : List ℕ) (outcome : Outcome) (fs : List Fill) → is_id id ≡ true
      → is_id original ≡ true → OutcomeInRange rules outcome
      → AreFew fs (entry_reports rules place session (Cancel id original) outcome fs)
  cancels_fit place session id original (Cancelled x) fs e d o =
      one_few fs (cancelled_report (symbol_of rules x.instrument) session id original x)
      (cancelled_fits session id original x e d o.0 o.1 o.2)
  cancels_fit place session id original (CancelRefused reason of status) fs e d o = none_few fs
  cancels_fit place session id original (Replaced x) fs e d o = none_few fs
  cancels_fit place session id original Rested fs e d o = none_few fs
  cancels_fit place session id original Filled fs e d o = none_few fs
  cancels_fit place session id original (Ended left) fs e d o = none_few fs
  cancels_fit place session id original (Refused reason) fs e d o = none_few fs
  cancels_fit place session id original Session fs e d o = none_few fs

  replaces_fit : (place session : ℕ) (original : List ℕ) (t : Ticket) (outcome : Outcome) (fs : List Fill)
      → is_id original ≡ true → FitsTicket t → OutcomeInRange rules outcome → AllByRecursion (FillInRange rules) fs
      → AreFew fs (entry_reports rules place session (Replace original t) outcome fs)
  replaces_fit place session original t (Replaced x) fs d h o fits =
      with_fills fs (replaced_report (symbol_of rules x.instrument) session t.id original x)
      (replaced_fits session t.id original x h.id d o.0 o.1 o.2 o.3) fits
  replaces_fit place session original t (CancelRefused reason of status) fs d h o fits = none_few fs
  replaces_fit place session original t Rested fs d h o fits = none_few fs
  replaces_fit place session original t Filled fs d h o fits = none_few fs
  replaces_fit place session original t (Ended left) fs d h o fits = none_few fs
  replaces_fit place session original t (Cancelled x) fs d h o fits = none_few fs
  replaces_fit place session original t (Refused reason) fs d h o fits = none_few fs
  replaces_fit place session original t Session fs d h o fits = none_few fs

  entry_reports_fit : (place session : ℕ) (v : Event) (outcome : Outcome) (fs : List Fill) → place < 2 ^ 64
      → FitsEvent v → OutcomeInRange rules outcome → AllByRecursion (FillInRange rules) fs
      → AreFew fs (entry_reports rules place session v outcome fs)
  entry_reports_fit place session (New t) outcome fs p h o fits = news_fit place session t outcome fs p h o fits
  entry_reports_fit place session (Cancel id original) outcome fs p h o fits =
      cancels_fit place session id original outcome fs h.0 h.1 o
  entry_reports_fit place session (Replace original t) outcome fs p h o fits =
      replaces_fit place session original t outcome fs h.0 h.1 o fits
  entry_reports_fit place session (Logon client host beat) outcome fs p h o fits = none_few fs
  entry_reports_fit place session (TestReply answer) outcome fs p h o fits = none_few fs
  entry_reports_fit place session (Gap first) outcome fs p h o fits = none_few fs
  entry_reports_fit place session (Resend first last) outcome fs p h o fits = none_few fs
  entry_reports_fit place session (Reject n reason) outcome fs p h o fits = none_few fs
  entry_reports_fit place session (Close reason) outcome fs p h o fits = none_few fs

  -- ---- other steps

  place_fits : (of : ℕ) → of < 2 ^ 64 → FitsReport (place_field of)
  place_fits of h = elim (of == 0) as (λ b. FitsReport (field 37 (if b then Text (codes "NONE") else Number of))) [
    | true ↦ text_fits 37 (codes "NONE") (omega arith) (omega arith) refl
    | false ↦
        number_fits 37 of (omega arith) (omega arith) h
  ]

  cancel_reject_fits : (request : ℕ) (id original : List ℕ) (reason of status : ℕ) → request < 2 ^ 64 → is_id id ≡ true
      → is_id original ≡ true → reason < 2 ^ 64 → of < 2 ^ 64 → status < 2 ^ 64
      → AllByRecursion FitsStep (order_cancel_reject request id original reason of status ∷ [])
  cancel_reject_fits request id original reason of status q e d r n s = (
    (
      omega arith,
      (
        place_fits of n,
        (
          text_fits 11 id (omega arith) (omega arith) e,
          (
            text_fits 41 original (omega arith) (omega arith) d,
            (
              number_fits 39 status (omega arith) (omega arith) s,
              (
                number_fits 434 request (omega arith) (omega arith) q,
                (number_fits 102 reason (omega arith) (omega arith) r, tt),
              ),
            ),
          ),
        ),
      ),
      omega arith,
    ),
    tt,
  )

  cancel_steps_fit : (id original : List ℕ) (outcome : Outcome) → is_id id ≡ true → is_id original ≡ true
      → OutcomeInRange rules outcome
      → AllByRecursion FitsStep (event_steps (Cancel id original) outcome)
  cancel_steps_fit id original (CancelRefused reason of status) e d o =
      cancel_reject_fits 1 id original reason of status (omega arith) e d o.0 o.1 o.2
  cancel_steps_fit id original (Cancelled x) e d o = tt
  cancel_steps_fit id original (Replaced x) e d o = tt
  cancel_steps_fit id original Rested e d o = tt
  cancel_steps_fit id original Filled e d o = tt
  cancel_steps_fit id original (Ended left) e d o = tt
  cancel_steps_fit id original (Refused reason) e d o = tt
  cancel_steps_fit id original Session e d o = tt

  replace_steps_fit : (original : List ℕ) (t : Ticket) (outcome : Outcome) → is_id original ≡ true → FitsTicket t
      → OutcomeInRange rules outcome
      → AllByRecursion FitsStep (event_steps (Replace original t) outcome)
  replace_steps_fit original t (CancelRefused reason of status) d h o =
      cancel_reject_fits 2 t.id original reason of status (omega arith) h.id d o.0 o.1 o.2
  replace_steps_fit original t (Replaced x) d h o = tt
  replace_steps_fit original t (Cancelled x) d h o = tt
  replace_steps_fit original t Rested d h o = tt
  replace_steps_fit original t Filled d h o = tt
  replace_steps_fit original t (Ended left) d h o = tt
  replace_steps_fit original t (Refused reason) d h o = tt
  replace_steps_fit original t Session d h o = tt

  close_fits : (reason : ℕ) → AllByRecursion FitsStep (close_steps reason)
  close_fits reason =
      elim (reason == 1) as (λ a. AllByRecursion FitsStep
      (if a then numbered 53 [] ∷ [] else if reason == 2 then numbered 53
      (text_field 58 (codes "MsgSeqNum too low") ∷ []) ∷ [] else if reason == 4 then numbered 53
      (text_field 58 (codes "CompID") ∷ []) ∷ [] else [])) [
        | true ↦ ((omega arith, tt, omega arith), tt)
        | false ↦ elim (reason == 2) as (λ b. AllByRecursion FitsStep
            (if b then numbered 53 (text_field 58 (codes "MsgSeqNum too low") ∷ []) ∷ [] else if reason == 4 then
            numbered 53 (text_field 58 (codes "CompID") ∷ []) ∷ [] else [])) [
              | true ↦ (
                (
                  omega arith,
                  (text_fits 58 (codes "MsgSeqNum too low") (omega arith) (omega arith) refl, tt),
                  omega arith,
                ),
                tt,
              )
              | false ↦ elim (reason == 4) as (λ d. AllByRecursion FitsStep
                  (if d then numbered 53 (text_field 58 (codes "CompID") ∷ []) ∷ [] else [])) [
                    | true ↦ (
                      (omega arith, (text_fits 58 (codes "CompID") (omega arith) (omega arith) refl, tt), omega arith),
                      tt,
                    )
                    | false ↦ tt
                  ]
            ]
      ]

  small_reason : (r : ℕ) → is_reject_reason r ≡ true → r < 2 ^ 64
  small_reason r e = grind (arith, nat_tests)

  steps_fit : (v : Event) (outcome : Outcome) → FitsEvent v → OutcomeInRange rules outcome
      → AllByRecursion FitsStep (event_steps v outcome)
  steps_fit (Logon client host beat) outcome h o = (
    (h.0, h.1),
    (
      (
        omega arith,
        (
          number_fits 98 0 (omega arith) (omega arith) (omega arith),
          (number_fits 108 beat (omega arith) (omega arith) (omega (arith, h.2)), tt),
        ),
        omega arith,
      ),
      tt,
    ),
  )
  steps_fit (New t) outcome h o = tt
  steps_fit (Cancel id original) outcome h o = cancel_steps_fit id original outcome h.0 h.1 o
  steps_fit (Replace original t) outcome h o = replace_steps_fit original t outcome h.0 h.1 o
  steps_fit (TestReply answer) outcome h o = (
    (
      omega arith,
      (text_fits 112 answer (omega arith) (omega arith) h, tt),
      omega arith,
    ),
    tt,
  )
  steps_fit (Gap first) outcome h o = (
    (
      omega arith,
      (
        number_fits 7 first (omega arith) (omega arith) (omega (arith, h.1)),
        (number_fits 16 0 (omega arith) (omega arith) (omega arith), tt),
      ),
      omega arith,
    ),
    tt,
  )
  steps_fit (Resend first last) outcome h o = (tt, tt)
  steps_fit (Reject n reason) outcome h o = (
    (
      omega arith,
      (
        number_fits 45 n (omega arith) (omega arith) (omega (arith, h.0.1)),
        (number_fits 373 reason (omega arith) (omega arith) (small_reason reason h.1), tt),
      ),
      omega arith,
    ),
    tt,
  )
  steps_fit (Close reason) outcome h o = close_fits reason

  addressed_fit : (session : ℕ) (cs : List OutgoingStep) → AllByRecursion FitsStep cs
      → AllByRecursion FitsAddressed (steps_to session cs)
  addressed_fit session [] fit = tt
  addressed_fit session (c ∷ cs) fit = (fit.0, addressed_fit session cs fit.1)

  pub entry_fits : (w : AppliedEntry) → EntryInRange rules w → AllByRecursion FitsAddressed (entry_messages rules w)
  entry_fits w h =
      let e = w.entry in
      let few : AreFew w.fills (entry_reports rules w.place e.session e.event w.outcome w.fills) =
      entry_reports_fit w.place e.session e.event w.outcome w.fills h.place h.event h.outcome h.fills in
      all_append (steps_to e.session (event_steps e.event w.outcome))
      (reports_from w.place 1 (entry_reports rules w.place e.session e.event w.outcome w.fills))
      (addressed_fit e.session (event_steps e.event w.outcome) (steps_fit e.event w.outcome h.event h.outcome))
      (reports_in_range w.place 1 (entry_reports rules w.place e.session e.event w.outcome w.fills) h.place
      (omega (arith, few.few, h.few)) few.all)
