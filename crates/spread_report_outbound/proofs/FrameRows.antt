-- Rows of whole frames.
use Rattle.std.proofs.Common.{◌≡◌, ◌≢◌, ℕ, ◌+◌, ◌*◌, ◌≤◌, true, List, [], ◌∷◌, ◌++◌, length, refl, sym, ap, ◌∙◌, arith, append_assoc, append-nil}
use Rattle.std.specs.Prelude.{nat_le}
use Rattle.std.specs.List.{AllByRecursion, concat, list_all}
use Rattle.std.proofs.lemmas.List.Folds.{concat-append}
use Rattle.std.proofs.lemmas.Bool.{leb-true, and_parts}
use Rattle.fix_wire.specs.declared.writer.Field.{Field}
use Rattle.fix_wire.specs.declared.writer.Head.{Head}
use Rattle.fix_wire.specs.Layout.{message_text, body_text, FitsKind, FitsTags, FitsBody, IsReadBack}
use Rattle.fix_wire_frames.specs.Frames.{IsFrame, frames}
use Rattle.spread_report_outbound.specs.Rows.{IsRow}
use Rattle.spread_report_outbound.specs.code.Addressed.{has_tag}

pub no_row : IsRow [] []
no_row = record { joined = refl; whole = tt; read = λ more. refl }

all_both : (xs ys : List (List ℕ)) → AllByRecursion IsFrame xs → AllByRecursion IsFrame ys
    → AllByRecursion IsFrame (xs ++ ys)
all_both [] ys a b = b
all_both (x ∷ xs) ys a b = (a.0, all_both xs ys a.1 b)

pub rows_both : (ts us : List (List ℕ)) (t u : List ℕ) → IsRow ts t → IsRow us u → IsRow (ts ++ us) (t ++ u)
rows_both ts us t u m r = record {
  joined = concat-append ts us ∙ (ap (λ (x : List ℕ). x ++ concat us) m.joined ∙ ap (λ (x : List ℕ). t ++ x) r.joined);
  whole = all_both ts us m.whole r.whole;
  read = λ more.
      ap (λ (x : List ℕ). frames x) (append_assoc t u more)
      ∙ (m.read (u ++ more) ∙ (ap (λ (x : List (List ℕ)). ts ++ x) (r.read more)
      ∙ sym (append_assoc ts us (frames more))));
}

pub message_row : (h : Head) (fs : List Field) → IsFrame (message_text h fs)
    → ((more : List ℕ) → frames (message_text h fs ++ more) ≡ message_text h fs ∷ frames more)
    → IsRow (message_text h fs ∷ []) (concat (message_text h fs ∷ []))
message_row h fs lawful first = record {
  joined = refl;
  whole = (lawful, tt);
  read =
      λ more. ap (λ (t : List ℕ). frames (t ++ more)) (append-nil (message_text h fs)) ∙ first more;
}

tags_of : (fs : List Field) → list_all has_tag fs ≡ true → FitsTags fs
tags_of [] e = tt
tags_of (f ∷ fs) e =
    let here : has_tag f ≡ true = (and_parts (has_tag f) (list_all has_tag fs) e).0 in
    let low : 1 ≤ f.tag = leb-true 1 f.tag (and_parts (nat_le 1 f.tag) (nat_le f.tag 999999999) here).0 in
    let high : f.tag ≤ 999999999 = leb-true f.tag 999999999 (and_parts (nat_le 1 f.tag) (nat_le f.tag 999999999) here).1
    in
    ((low, omega (arith, high)), tags_of fs (and_parts (has_tag f) (list_all has_tag fs) e).1)

-- what the writer wrote is one frame
pub written_row : (h : Head) (fs : List Field) → h.kind ≢ 1 → list_all has_tag fs ≡ true → length fs ≤ 18
    → length (body_text h fs) ≤ 64 * length fs + 180
    → (FitsKind h → FitsTags fs → FitsBody h fs → IsReadBack h fs)
    → IsRow (message_text h fs ∷ []) (concat (message_text h fs ∷ []))
written_row h fs kind tags few short lawful =
    let back : IsReadBack h fs = lawful kind (tags_of fs tags) (omega (arith, few, short)) in
    message_row h fs back.lawful back.first
