-- The headline: what is true of every day that the host hands out, whether it came from day lines or from sessions in threads.
use Rattle.std.specs.Prelude.{◌≡◌, ℕ, ◌<◌, ◌≤◌, ◌==◌, if◌then◌else◌, List, [], take, Contains}
use Rattle.std.specs.List.{flat_map, list_any}
use Rattle.std.specs.Result.{IsOkAnd}
use Rattle.std.specs.declared.vec.Vec.{Vec}
use Rattle.spread_rules_ids.specs.declared.limits.TheConstants.{SESSIONS}
use Rattle.spread_rules.specs.declared.event.Entry.{Entry}
use Rattle.spread_rules.specs.declared.fill.Fill.{Fill}
use Rattle.spread_rules.specs.Journal.{IsLawful, restricted}
use Rattle.spread_rules.specs.Legs.{lots, money}
use Rattle.spread_rules.specs.declared.order.Side.TheVariants.{Buy, Sell}
use Rattle.spread_rules.specs.Meaning.{filled}
use Rattle.spread_rules.specs.Quiet.{IsQuiet}
use Rattle.spread_rules_rulebook.specs.Rulebook.{implied, Rules}
use Rattle.spread_match.specs.Sound.{KeepsOrder}
use Rattle.spread_report.specs.Messages.{messages_to, AreReadBack}
use Rattle.apply_desk.specs.Applied.{applied_entries, applied_journal}
use Rattle.text_day.specs.DayText.{AreShown}
use Rattle.text_messages.specs.Messages.{texts_of}
use Rattle.fix_session_judging.specs.Streams.{whole}
use Rattle.intake_lines.specs.LineText.{day_lines_of}
use Rattle.intake_lines.specs.DayLines.{stream_of}
use Rattle.intake_lines.specs.Reading.{IsJournalOf}
use Rattle.live_sessions.specs.Streams.{whole_at}
use Rattle.spread_host.specs.Days.{texts_below}

-- ---- the promises

-- Of each session the journal has exactly the accepted events of its stream, each once, in sent order, and of no other session any.
abbrev pub IsJournalOfStreams : {A : Type 0} → List (Vec ℕ A) → List Entry → Type 0
IsJournalOfStreams streams journal = (s : ℕ) → restricted s journal ≡ whole_at streams s

-- The journal is that of the day lines of this input: of each session it has exactly the events that its bytes say, in sent order.
pub record IsJournalOfText (input : List ℕ) (journal : List Entry) : Type 0 where
  pub entries : IsJournalOf input journal
  -- each session's part is what its whole stream says, and nothing where it had no line
  pub parts : IsOkAnd (day_lines_of input) (λ lines. (s : ℕ) → restricted s journal
      ≡ (if list_any (λ l. l.session == s) lines then whole (stream_of s lines) else []))

-- The fills are those that the matching rule gives the journal.
abbrev pub HasFills : Rules → List Entry → List Fill → Type 0
HasFills rules journal fills = fills ≡ flat_map (λ w. w.fills) (applied_entries rules journal)

-- Each session is sent the bytes that the journal's entries send it, with this SendingTime.
abbrev pub HasOutgoing : {A : Type 0} → Rules → List ℕ → List Entry → List (Vec ℕ A) → Type 0
HasOutgoing rules stamp journal out = texts_of out ≡ texts_below SESSIONS rules stamp journal

-- In every month as many lots are bought as are sold.
abbrev pub BoughtIsSold : List Fill → Type 0
BoughtIsSold fills = (month : ℕ) → lots Buy month fills ≡ lots Sell month fills

-- In every month as much is paid as is received.
abbrev pub PaidIsReceived : List Fill → Type 0
PaidIsReceived fills = (month : ℕ) → money Buy month fills ≡ money Sell month fills

-- After each entry nothing direct or first-generation implied can trade.
abbrev pub IsAlwaysQuiet : Rules → List Entry → Type 0
IsAlwaysQuiet rules journal =
    (n : ℕ) → IsQuiet (implied rules) (applied_journal rules (take n journal)).orders

-- ---- what else is true of a day

-- The day of a lawful journal: its fills, and what each of the sixteen sessions is sent.
pub record IsDayOf (rules : Rules) (stamp : List ℕ) (journal : List Entry) (fills : List Fill) : Type 0 where
  -- at most 1,000,000 entries in range; of each session at most one Logon, its first, and nothing after its Close
  pub lawful : IsLawful journal
  -- each fill is of an order of the journal, on its side, and within its limit
  pub limits : (f : Fill) → Contains fills f → KeepsOrder journal f
  -- no order is filled beyond its quantity
  pub totals : (f : Fill) → Contains fills f → filled f.order fills ≤ f.total
  -- the fills have a line each in the text of the day
  pub shown : AreShown rules fills
  -- what a session is sent is whole messages, and is read back as them
  pub whole_frames : (s : ℕ) → s < SESSIONS
      → AreReadBack (messages_to rules stamp (applied_entries rules journal) s)
