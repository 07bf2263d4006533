use Rattle.std.proofs.Common.{refl, sym, ap, ◌∙◌}
use Rattle.std.specs.Prelude.{option_map}
use Rattle.fix_session_judging.specs.Reading.{after_passing}
use Rattle.fix_session_judging.specs.code.Changes.{judgement_with}
use Rattle.fix_session.specs.code.ReaderFields.{state_of}
use Rattle.fix_session.proofs.readers.FirstMessage.{found_kept, same_state, none_passed, one_passed}
use Rattle.fix_session.proofs.reader.Reader.pass.Goals as goal

pub invariant_of-self : goal.invariant_of-self
invariant_of-self c =
    found_kept c.self.inside.framer c.find_due.new.framer c.self.inside.session c.find_due.new.verdict
    c.find_due.new.due c.find_due.ensures.held c.find_due.ensures.found

pub returns-in_default-clause-passed : goal.returns-in_default-clause-passed
returns-in_default-clause-passed c =
    let s = c.self.inside.session in
    same_state _ _ s s c.find_due.ensures.held refl
    ∙ none_passed (state_of c.self.inside) (sym c.find_due.ensures.found
    ∙ ap (option_map (judgement_with s c.find_due.new.verdict)) c.in_default.is)
    ∙ ap after_passing c.self.view_is

pub returns-clause-passed : goal.returns-clause-passed
returns-clause-passed c =
    let s = c.self.inside.session in
    let v = c.find_due.new.verdict in
    same_state c.pass.new.self c.pass.new.self _ _ refl c.change.ensures
    ∙ one_passed (state_of c.self.inside) c.find_due.new.framer c.pass.new.self (judgement_with s v c.in-Some.change)
    c.pass.result
    c.find_due.ensures.held (sym c.find_due.ensures.found ∙ ap (option_map (judgement_with s v)) c.in-Some.is)
    c.pass.ensures.stands c.pass.ensures.passed
    ∙ ap after_passing c.self.view_is
