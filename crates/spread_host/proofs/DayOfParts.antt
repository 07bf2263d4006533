-- The day of a lawful journal, from its fills and from what each session is sent.
use Rattle.std.proofs.Common.{◌≡◌, ℕ, ◌<◌, List, length, sym, subst, Vec, All}
use Rattle.spread_rules_ids.specs.declared.limits.TheConstants.{SESSIONS}
use Rattle.spread_rules.specs.declared.event.Entry.{Entry}
use Rattle.spread_rules.specs.declared.fill.Fill.{Fill}
use Rattle.spread_rules.specs.Journal.{IsLawful}
use Rattle.spread_rules.specs.code.Meaning.{meaning_of_journal}
use Rattle.spread_rules.specs.Ranges.{IsFillInRange}
use Rattle.spread_rules_rulebook.specs.Rulebook.{Rules, IsRules}
use Rattle.spread_report_outbound.specs.Rows.{IsRow}
use Rattle.spread_report.specs.Messages.{messages_to}
use Rattle.spread_report_outbound.specs.Sessions.{bytes_of}
use Rattle.apply_desk.specs.Applied.{outgoing_bytes, applied_entries}
use Rattle.text_day.specs.DayText.{AreShown}
use Rattle.spread_host.specs.Headline.{HasOutgoing, BoughtIsSold, PaidIsReceived, IsAlwaysQuiet, IsDayOf}
use Rattle.spread_host.proofs.SixteenTexts.{all_texts, read_back_of}
use Rattle.spread_host.proofs.FillsShown.{shown_of}
use Rattle.spread_host.proofs.LawfulJournals.{JournalHolds, fills_hold}

pub record DayHolds {A : Type 0} (rules : Rules) (stamp : List ℕ) (journal : List Entry) (fills : List Fill)
    (out : List (Vec ℕ A)) : Type 0 where
  pub outgoing : HasOutgoing rules stamp journal out
  pub bought_is_sold : BoughtIsSold fills
  pub paid_is_received : PaidIsReceived fills
  pub quiet : IsAlwaysQuiet rules journal
  pub day : IsDayOf rules stamp journal fills

pub day_holds : {A : Type 0} (rules : Rules) (stamp : List ℕ) (journal : List Entry) (fills : List Fill)
    (out : List (Vec ℕ A)) → IsRules rules → IsLawful journal
    → All (IsFillInRange rules) (meaning_of_journal rules journal).fills
    → fills ≡ (meaning_of_journal rules journal).fills → length out ≡ SESSIONS
    → ((s : ℕ) → s < SESSIONS → bytes_of out s ≡ outgoing_bytes rules stamp journal s)
    → ((s : ℕ) → s < SESSIONS → IsRow (messages_to rules stamp (applied_entries rules journal) s) (bytes_of out s))
    → DayHolds rules stamp journal fills out
day_holds rules stamp journal fills out rule lawful range are lists bytes whole =
    let holds : JournalHolds rules journal fills = fills_hold rules journal fills lawful are in
    record {
      outgoing = all_texts out rules stamp journal lists bytes;
      bought_is_sold = holds.bought_is_sold;
      paid_is_received = holds.paid_is_received;
      quiet = holds.quiet;
      day = record {
        lawful = lawful;
        limits = holds.limits;
        totals = holds.totals;
        shown = subst (λ (fs : List Fill). AreShown rules fs) (sym are)
            (shown_of rules (meaning_of_journal rules journal).fills range);
        whole_frames = λ s low. read_back_of (messages_to rules stamp (applied_entries rules journal) s)
            (bytes_of out s) (whole s low);
      };
    }
