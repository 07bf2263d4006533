use Rattle.std.proofs.Common.{◌∙◌, ap, ℕ, List, [], Vec, slice_set}
use Rattle.std.proofs.lemmas.List.{map-set}
use Rattle.spread_report_outbound.specs.code.Sessions.{texts_of}
use Rattle.apply_desk.specs.Sending.{Sending}
use Rattle.apply_desk.proofs.report.ReportedEntries.clear.Goals as goal

pub returns-clause-texts : goal.returns-clause-texts
returns-clause-texts g c =
    let inside = c.self.inside in
    let i = c.args.session in
    map-set (λ (v : Vec ℕ g.row.A.Denot). v.items) inside.out.items i c.clear.new.self
    ∙ (ap (λ (t : List ℕ). slice_set (texts_of inside.out.items) i t) c.clear.ensures.items
    ∙ ap (λ (s : Sending). slice_set s.texts i []) c.self.view_is)
