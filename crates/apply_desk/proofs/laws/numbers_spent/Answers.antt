use Rattle.std.proofs.Common.{◌≡◌, ℕ, zero, suc, ◌-◌, ◌≤◌, true, false, List, sym, ◌∙◌, arith, take}
use Rattle.spread_rules.specs.declared.event.Entry.{Entry}
use Rattle.spread_rules_rulebook.specs.Rulebook.{Rules}
use Rattle.spread_report.specs.Outgoing.{spends_numbers}
use Rattle.apply_desk.specs.Applied.{applied_entries, SpendsAt}
use Rattle.apply_desk.proofs.SomeSession.{some_session, each_session}
use Rattle.apply_desk.proofs.laws.numbers_spent.Goals as goal

-- before the first entry nothing is spent that is not spent there too
first : (rules : Rules) (journal : List Entry) (place : ℕ) → SpendsAt rules journal place → 1 ≤ place
first rules journal zero h = let clash : true ≡ false = sym h.spent ∙ h.not_before in absurd (cc clash)
first rules journal (suc place) h = omega arith

pub returns-clause-first : goal.returns-clause-first
returns-clause-first c = first

pub returns-clause-session : goal.returns-clause-session
returns-clause-session c rules journal place h = some_session
    (spends_numbers rules (applied_entries rules (take place journal))) h.spent

pub returns-clause-none_before : goal.returns-clause-none_before
returns-clause-none_before c rules journal place h =
    each_session (spends_numbers rules (applied_entries rules (take (place - 1) journal))) h.not_before
