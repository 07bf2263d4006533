use Rattle.std.proofs.Common.{◌≡◌, [], ◌++◌, None, sym, ap, ◌∙◌, rules, Vec}
use Rattle.std.specs.List.{cons_option}
use Rattle.std.proofs.lemmas.List.{append-nil}
use Rattle.fix_session_judging.specs.Steps.{judge, event_in}
use Rattle.fix_session_judging.specs.Reading.{first_verdict, entries_of}
use Rattle.fix_session.proofs.readers.FirstMessage.{verdict_some, verdict_none}
use Rattle.fix_session.proofs.readers.BytesFed.{fed_skipped, drained_where_none, fed_passed, passed_less}
use Rattle.fix_session.proofs.reader.Reader.read_first.Goals as goal
use Rattle.fix_session.proofs.reader.Reader.read_first.Goals.{in-Event+in_ok-push, in_default-verdict}

pub returns-in_default-clause-fed : goal.returns-in_default-clause-fed
returns-in_default-clause-fed g c = fed_skipped c.args.number c.args.out.now.items c.args.self.now c.look.new.self
    c.look.ensures.skipped

pub returns-in_default-clause-none : goal.returns-in_default-clause-none
returns-in_default-clause-none g c =
    let none : first_verdict c.args.self.now ≡ None = search rules in
    drained_where_none c.args.self.now c.look.new.self c.look.ensures.skipped (verdict_none c.args.self.now none)

-- the event, if there is one, joins the entries
match_says : (g : _) (c : goal.After-pass g) → c.match-verdict.out.items ≡ c.args.out.now.items
    ++ entries_of c.args.number (cons_option (event_in c.in-Some.verdict) [])
match_says g c = elim c.match-verdict.branch [
  | in-Event+in_ok-push w ↦
      ap (λ (v : Vec _ _). v.items) w.out-is ∙ w.in_ok-push.ensures.items
      ∙ ap (λ v. c.args.out.now.items ++ entries_of c.args.number (cons_option (event_in v) [])) (sym w.in-Event.is)
  | in_default-verdict w ↦
      ap (λ (v : Vec _ _). v.items) w.out-is ∙ sym (append-nil c.args.out.now.items)
      ∙ ap (λ v. c.args.out.now.items ++ entries_of c.args.number (cons_option (event_in v) []))
      (sym w.in_default-verdict.is)
]

pub returns-clause-fed : goal.returns-clause-fed
returns-clause-fed g c =
    let m = verdict_some c.args.self.now c.in-Some.verdict (sym c.in-Some.ensures.says) in
    let says : c.match-verdict.out.items ≡ c.args.out.now.items
    ++ entries_of c.args.number (cons_option (event_in (judge c.args.self.now.session m.0).0) []) =
    match_says g c ∙ ap (λ v. c.args.out.now.items ++ entries_of c.args.number (cons_option (event_in v) []))
    (sym m.1.1) in
    fed_passed c.args.number c.args.out.now.items c.args.self.now c.look.new.self c.pass.new.self m.0
    c.match-verdict.out.items c.look.ensures.skipped m.1.0 c.pass.ensures.passed says

pub returns-clause-less : goal.returns-clause-less
returns-clause-less g c =
    let m = verdict_some c.args.self.now c.in-Some.verdict (sym c.in-Some.ensures.says) in
    passed_less c.args.self.now c.look.new.self c.pass.new.self m.0 c.look.ensures.skipped m.1.0 c.pass.ensures.passed
