-- What a run's answer says of each session, where it is a day.
use Rattle.std.proofs.Common.{◌≡◌, ℕ, ◌<◌, List, length}
use Rattle.std.specs.Prelude.{IfOk, Result, Ok, Err}
use Rattle.std.specs.List.{All}
use Rattle.spread_rules_ids.specs.declared.limits.TheConstants.{SESSIONS}
use Rattle.spread_rules_rulebook.specs.Rulebook.{Rules}
use Rattle.fix_wire_frames.specs.Frames.{IsFrameRow}
use Rattle.spread_report_outbound.specs.Rows.{IsRow}
use Rattle.spread_report.specs.Messages.{messages_to}
use Rattle.spread_report_outbound.specs.Sessions.{bytes_of}
use Rattle.apply_desk.specs.Applied.{outgoing_bytes, applied_entries}
use Rattle.text_messages.specs.Messages.{texts_of}
use Rattle.text_day.specs.declared.day_text.Day.{Day}
use Rattle.spread_host.specs.Headline.{HasOutgoing, IsDayOf}
use Rattle.spread_host.proofs.SixteenTexts.{sessions_sent}

pub record IsAnswerSent {A E : Type 0} (rules : Rules) (stamp : List ℕ) (answer : Result (Day A) E) : Type 0 where
  pub lists : IfOk answer (λ day. length day.out.items ≡ SESSIONS)
  pub outgoing : IfOk answer (λ day. (s : ℕ) → s < SESSIONS
      → bytes_of day.out.items s ≡ outgoing_bytes rules stamp day.journal.items s)
  pub whole_frames : IfOk answer (λ day. (s : ℕ) → s < SESSIONS
      → IsRow (messages_to rules stamp (applied_entries rules day.journal.items) s) (bytes_of day.out.items s))
  pub rows : IfOk answer (λ day. All IsFrameRow (texts_of day.out.items))

pub answer_sent : {A E : Type 0} (rules : Rules) (stamp : List ℕ) (answer : Result (Day A) E)
    → IfOk answer (λ day. HasOutgoing rules stamp day.journal.items day.out.items)
    → IfOk answer (λ day. IsDayOf rules stamp day.journal.items day.fills.items)
    → IsAnswerSent rules stamp answer
answer_sent rules stamp (Ok day) sent is =
    let each = sessions_sent rules stamp day.journal.items day.fills.items day.out.items sent is in
    record { lists = each.lists; outgoing = each.outgoing; whole_frames = each.whole_frames; rows = each.rows }
answer_sent rules stamp (Err fault) sent is = record { lists = tt; outgoing = tt; whole_frames = tt; rows = tt }
