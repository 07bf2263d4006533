-- What the sixteen sessions are sent, as one list and session by session.
use Rattle.std.proofs.Common.{◌≡◌, ℕ, ◌<◌, List, [], ◌++◌, length, get_or, sym, ap, ◌∙◌, arith}
use Rattle.std.proofs.lemmas.List.{length-map}
use Rattle.std.proofs.lemmas.List.FromFn.{fill_by_all, length-map-range_with_len, get_or-map-range_with_len}
use Rattle.std.specs.declared.vec.Vec.{Vec}
use Rattle.std.specs.List.{All, concat}
use Rattle.std.proofs.lemmas.List.Elements.{All-from_get_or}
use Rattle.spread_rules_ids.specs.declared.limits.TheConstants.{SESSIONS}
use Rattle.spread_rules.specs.declared.event.Entry.{Entry}
use Rattle.spread_rules.specs.declared.fill.Fill.{Fill}
use Rattle.spread_rules_rulebook.specs.Rulebook.{Rules}
use Rattle.fix_wire_frames.specs.Frames.{IsFrameRow, frames}
use Rattle.spread_report_outbound.specs.Rows.{IsRow}
use Rattle.spread_report.specs.Messages.{AreReadBack, messages_to}
use Rattle.spread_report_outbound.specs.Sessions.{bytes_of}
use Rattle.apply_desk.specs.Applied.{outgoing_bytes, applied_entries}
use Rattle.text_messages.specs.Messages.{texts_of}
use Rattle.spread_host.specs.Headline.{HasOutgoing, IsDayOf}

-- ---- from session by session to one list

pub all_texts : {A : Type 0} (lists : List (Vec ℕ A)) (rules : Rules) (stamp : List ℕ) (journal : List Entry)
    → length lists ≡ 16 → ((s : ℕ) → s < 16 → bytes_of lists s ≡ outgoing_bytes rules stamp journal s)
    → HasOutgoing rules stamp journal lists
all_texts {A} lists rules stamp journal n each = fill_by_all (outgoing_bytes rules stamp journal) (texts_of lists) 16 []
    (length-map lists (λ (v : Vec ℕ A). v.items) ∙ n) each

pub read_back_of : (messages : List (List ℕ)) (text : List ℕ) → IsRow messages text → AreReadBack messages
read_back_of messages text row = record {
  whole = row.whole;
  read = λ more. ap (λ (t : List ℕ). frames (t ++ more)) row.joined ∙ row.read more;
}

-- ---- and back

-- What the list of all texts, and that each session's messages are read back, say of each session: there are sixteen
-- lists; each has the bytes that the journal sends its session, and is a row of whole frames.
pub record AreSessionsSent {A : Type 0} (rules : Rules) (stamp : List ℕ) (journal : List Entry) (out : List (Vec ℕ A)) :
    Type 0 where
  pub lists : length out ≡ SESSIONS
  pub outgoing : (s : ℕ) → s < SESSIONS → bytes_of out s ≡ outgoing_bytes rules stamp journal s
  pub whole_frames : (s : ℕ) → s < SESSIONS → IsRow (messages_to rules stamp (applied_entries rules journal) s)
      (bytes_of out s)
  pub rows : All IsFrameRow (texts_of out)

row_of : (messages : List (List ℕ)) (text : List ℕ) → text ≡ concat messages → AreReadBack messages
    → IsRow messages text
row_of messages text is back = record {
  joined = sym is;
  whole = back.whole;
  read = λ more. ap (λ (t : List ℕ). frames (t ++ more)) is ∙ back.read more;
}

frame_row_of : (messages : List (List ℕ)) (text : List ℕ) → IsRow messages text → IsFrameRow text
frame_row_of messages text r = record { row = messages; whole = r.whole; joined = r.joined }

pub sessions_sent : {A : Type 0} (rules : Rules) (stamp : List ℕ) (journal : List Entry) (fills : List Fill)
    (out : List (Vec ℕ A)) → HasOutgoing rules stamp journal out → IsDayOf rules stamp journal fills
    → AreSessionsSent rules stamp journal out
sessions_sent {A} rules stamp journal fills out sent day =
    let count : length (texts_of out) ≡ 16 = ap (λ (ts : List (List ℕ)). length ts) sent
    ∙ length-map-range_with_len (outgoing_bytes rules stamp journal) 0 16 in
    let bytes : (s : ℕ) → s < 16 → bytes_of out s ≡ outgoing_bytes rules stamp journal s =
    λ s low. ap (λ (ts : List (List ℕ)). get_or ts s []) sent
    ∙ get_or-map-range_with_len (outgoing_bytes rules stamp journal) 0 16 s s [] low (omega arith) in
    let messages : ℕ → List (List ℕ) = messages_to rules stamp (applied_entries rules journal) in
    let row : (s : ℕ) → s < 16 → IsRow (messages s) (bytes_of out s) =
    λ s low. row_of (messages s) (bytes_of out s) (bytes s low) (day.whole_frames s low) in
    record {
      lists = sym (length-map out (λ (v : Vec ℕ A). v.items)) ∙ count;
      outgoing = bytes;
      whole_frames = row;
      rows = All-from_get_or IsFrameRow (texts_of out) []
          (λ s h. frame_row_of (messages s) (bytes_of out s) (row s (omega (arith, count, h))));
    }
