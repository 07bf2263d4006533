-- A text that comes in pieces is read as the whole text.
use Rattle.std.proofs.Common.{◌≡◌, ◌≢◌, ℕ, ◌+◌, Bool, true, false, not, List, [], ◌∷◌, ◌++◌, Option, Some, None, Result, Ok, Err, refl, sym, ap, ◌∙◌, subst, append_assoc, Vec, vec_len, length, eqb, arith}
use Rattle.std.specs.Prelude.{option_map, is_some}
use Rattle.std.specs.Bool.{then_some}
use Rattle.std.proofs.lemmas.Bool.Decides.{nat_tests}
use Rattle.std.proofs.lemmas.List.{append-nil, nil_from_length}
use Rattle.std.proofs.lemmas.Option.{same_Some, none-some}
use Rattle.spread_rules_ids.specs.Cut.{Lacks}
use Rattle.spread_rules_ids.proofs.Cuts.{Lacks-append}
use Rattle.spread_rules.specs.declared.event.Entry.{Entry}
use Rattle.intake_lines.specs.LineText.{DayLine}
use Rattle.intake_lines.specs.code.OneByOne.{lines_of, one_line, prepend, session_lines, lines_said}
use Rattle.intake_lines.specs.DayLines.{journal_of_lines}
use Rattle.intake_lines.specs.JournalParts.{AreOfSessions}
use Rattle.intake_lines.specs.code.LineSessions.{AreFed, TakesLine}
use Rattle.intake_lines.specs.code.PiecesRead.{IsGoing, HasBadLine, HasRead, ReadsOn}
use Rattle.intake_lines.specs.declared.line_sessions.SessionReaders.{SessionReaders}
use Rattle.intake_lines.specs.declared.day_reader.DayReader.{DayReader}
use Rattle.intake_lines.proofs.LinesReadInTurn.{lines_cut, lines_last, took, was_bad, behind_none, last_took}

pub none_at : (o : Option ℕ) (b : Bool) → is_some o ≡ not b → b ≡ true → o ≡ None
none_at None b s t = refl
none_at (Some n) true s t = cc
none_at (Some n) false s t = cc

pub some_at : (o : Option ℕ) (b : Bool) → is_some o ≡ not b → b ≡ false → o ≢ None
some_at None true s t e = cc
some_at None false s t e = cc
some_at (Some n) b s t e = cc

pub nothing_kept : {A : Type 0} (kept : Vec ℕ A) (b : Bool) → b ≡ eqb (vec_len kept) 0 → b ≡ true → kept.items ≡ []
nothing_kept kept b e t = let ok = kept.ok.0 in let none : length kept.items ≡ 0 = grind (arith, nat_tests) in
    nil_from_length kept.items none

-- before the first piece
pub starts : {A : Type 0} (r : DayReader A) → AreFed [] r.line_sessions → r.rest.items ≡ [] → r.number ≡ 1
    → r.bad ≡ None → HasRead [] r
starts r fed none one still = record {
  going = λ _. record {
    done = [];
    fed = fed;
    says = λ more.
        sym (behind_none (lines_said more))
        ∙ ap (λ (n : ℕ). prepend [] (session_lines n (lines_of more))) (sym one)
        ∙ ap (λ (t : List ℕ). prepend [] (session_lines r.number (lines_of (t ++ more)))) (sym none);
    unended = subst (Lacks 10) (sym none) tt;
  };
  stopped = λ n e. absurd (none-some n (sym still ∙ e));
}

-- ---- a line ends

module _ {A : Type 0} (text end : List ℕ) (old : DayReader A) (h : IsGoing text old) (lacks : Lacks 10 end) where
  with_line : (more : List ℕ) → lines_said ((text ++ (end ++ 10 ∷ [])) ++ more) ≡ prepend h.done
      (session_lines old.number ((old.rest.items ++ end) ∷ lines_of more))
  with_line more =
      ap lines_said (append_assoc text (end ++ 10 ∷ []) more
      ∙ ap (λ (t : List ℕ). text ++ t) (append_assoc end (10 ∷ []) more))
      ∙ h.says (end ++ 10 ∷ more)
      ∙ ap (λ (t : List ℕ). prepend h.done (session_lines old.number (lines_of t)))
      (sym (append_assoc old.rest.items end (10 ∷ more)))
      ∙ ap (λ (ls : List (List ℕ)). prepend h.done (session_lines old.number ls))
      (lines_cut (old.rest.items ++ end) more (Lacks-append 10 old.rest.items end h.unended lacks))

  pub good_ends : (new : DayReader A) → TakesLine true (old.rest.items ++ end) old.line_sessions new.line_sessions
      → new.rest.items ≡ [] → new.number ≡ old.number + 1 → new.bad ≡ None → HasRead (text ++ (end ++ 10 ∷ [])) new
  good_ends new takes none next still =
      let done = h.done ++ takes.0 in
      record {
        going = λ _. record {
          done = done;
          fed = takes.2 h.done h.fed;
          says = λ more.
              with_line more
              ∙ took h.done done old.number (old.rest.items ++ end) (lines_of more)
              (ap (option_map (λ (says : List DayLine). h.done ++ says)) takes.1)
              ∙ ap (λ (n : ℕ). prepend done (session_lines n (lines_of more))) (sym next)
              ∙ ap (λ (t : List ℕ). prepend done (session_lines new.number (lines_of (t ++ more)))) (sym none);
          unended = subst (Lacks 10) (sym none) tt;
        };
        stopped = λ n e. absurd (none-some n (sym still ∙ e));
      }

  pub bad_ends : (new : DayReader A) → one_line (old.rest.items ++ end) ≡ None → new.bad ≡ Some old.number
      → HasRead (text ++ (end ++ 10 ∷ [])) new
  bad_ends new is bad = record {
    going = λ still. absurd (none-some old.number (sym still ∙ bad));
    stopped = λ n e more.
        with_line more ∙ was_bad h.done old.number (old.rest.items ++ end) (lines_of more) is
        ∙ ap (λ (k : ℕ). let r : Result (List DayLine) ℕ = Err k in r) (same_Some _ _ (sym bad ∙ e));
  }

pub line_ends : {A : Type 0} (end : List ℕ) (good : Bool) (old new : DayReader A) → old.bad ≡ None → Lacks 10 end
    → TakesLine good (old.rest.items ++ end) old.line_sessions new.line_sessions
    → new.rest.items ≡ [] → new.number ≡ old.number + 1 → new.bad ≡ then_some (not good) old.number
    → ReadsOn (end ++ 10 ∷ []) old new
line_ends end true old new going lacks takes none next bad text had =
    good_ends text end old (had.going going) lacks new takes none next bad
line_ends end false old new going lacks takes none next bad text had =
    bad_ends text end old (had.going going) lacks new takes bad

-- ---- pieces

pub reads_none : {A : Type 0} (r : DayReader A) → ReadsOn [] r r
reads_none r text had = subst (λ (t : List ℕ). HasRead t r) (sym (append-nil text)) had

pub reads_both : {A : Type 0} (a b : List ℕ) (x y z : DayReader A) → ReadsOn a x y → ReadsOn b y z
    → ReadsOn (a ++ b) x z
reads_both a b x y z p q text had = subst (λ (t : List ℕ). HasRead t z) (append_assoc text a b)
    (q (text ++ a) (p text had))

-- what stands behind the last line end is kept
pub rest_kept : {A : Type 0} (left : List ℕ) (old new : DayReader A) → old.bad ≡ None → Lacks 10 left
    → new.line_sessions ≡ old.line_sessions → new.rest.items ≡ old.rest.items ++ left → new.number ≡ old.number
    → new.bad ≡ None → ReadsOn left old new
rest_kept {A} left old new going lacks line_sessions rest number still text had =
    let h = had.going going in
    record {
      going = λ _. record {
        done = h.done;
        fed = subst (λ (l : SessionReaders A). AreFed h.done l) (sym line_sessions) h.fed;
        says = λ more.
            ap lines_said (append_assoc text left more) ∙ h.says (left ++ more)
            ∙ ap (λ (t : List ℕ). prepend h.done (session_lines old.number (lines_of t)))
            (sym (append_assoc old.rest.items left more))
            ∙ ap (λ (t : List ℕ). prepend h.done (session_lines old.number (lines_of (t ++ more)))) (sym rest)
            ∙ ap (λ (n : ℕ). prepend h.done (session_lines n (lines_of (new.rest.items ++ more)))) (sym number);
        unended = subst (Lacks 10) (sym rest) (Lacks-append 10 old.rest.items left h.unended lacks);
      };
      stopped = λ n e. absurd (none-some n (sym still ∙ e));
    }

-- behind a bad line nothing is looked at
pub nothing_more : {A : Type 0} (left : List ℕ) (r : DayReader A) → r.bad ≢ None → ReadsOn left r r
nothing_more left r is text had = record {
  going = λ still. absurd (is still);
  stopped = λ n e more. ap lines_said (append_assoc text left more) ∙ had.stopped n e (left ++ more);
}

-- ---- the end

module _ {A : Type 0} (text : List ℕ) (r : DayReader A) (h : IsGoing text r) where
  to_end : lines_said text ≡ prepend h.done (session_lines r.number (r.rest.items ∷ []))
  to_end =
      ap lines_said (sym (append-nil text)) ∙ h.says []
      ∙ ap (λ (t : List ℕ). prepend h.done (session_lines r.number (lines_of t))) (append-nil r.rest.items)
      ∙ ap (λ (ls : List (List ℕ)). prepend h.done (session_lines r.number ls)) (lines_last r.rest.items h.unended)

  pub last_good : (says : List DayLine) → one_line r.rest.items ≡ Some says → lines_said text ≡ Ok (h.done ++ says)
  last_good says is = to_end ∙ last_took h.done (h.done ++ says) r.number r.rest.items
      (ap (option_map (λ (s : List DayLine). h.done ++ s)) is)

  pub last_bad : one_line r.rest.items ≡ None → lines_said text ≡ Err r.number
  last_bad is = to_end ∙ was_bad h.done r.number r.rest.items [] is

pub stopped_said : (text : List ℕ) (n : ℕ) → HasBadLine text n → lines_said text ≡ Err n
stopped_said text n h = ap lines_said (sym (append-nil text)) ∙ h []

-- the journal is that of the lines that the text says
pub record IsWholeJournal (text : List ℕ) (journal : List Entry) : Type 0 where
  pub lines : List DayLine
  pub said : lines_said text ≡ Ok lines
  pub journal_is : journal ≡ journal_of_lines lines
  pub sessions : AreOfSessions lines

pub ended : {A : Type 0} (text : List ℕ) (r : DayReader A) (line_sessions : SessionReaders A) (journal : List Entry)
    → HasRead text r → r.bad ≡ None → TakesLine true r.rest.items r.line_sessions line_sessions
    → ((lines : List DayLine) → AreFed lines line_sessions → journal ≡ journal_of_lines lines)
    → IsWholeJournal text journal
ended text r line_sessions journal had going takes closes =
    let h = had.going going in
    let fed = takes.2 h.done h.fed in
    record {
      lines = h.done ++ takes.0;
      said = last_good text r h takes.0 takes.1;
      journal_is = closes (h.done ++ takes.0) fed;
      sessions = fed.sessions;
    }
