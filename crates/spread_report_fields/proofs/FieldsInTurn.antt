-- Fields written one behind the other.
use Rattle.std.proofs.Common.{◌≡◌, ℕ, List, [], ◌∷◌, ◌++◌, refl, sym, ap, ◌∙◌, append_assoc, append-nil}
use Rattle.std.specs.List.{flat_map, AllByRecursion}
use Rattle.fix_wire.specs.declared.writer.Field.{Field}
use Rattle.fix_wire.specs.Layout.{field_text, FitsValueOf}

-- the texts of fields
abbrev pub texts_of : List Field → List ℕ
texts_of fs = flat_map field_text fs

texts_two : (fs gs : List Field) → texts_of (fs ++ gs) ≡ texts_of fs ++ texts_of gs
texts_two [] gs = refl
texts_two (f ∷ fs) gs = ap (λ t. field_text f ++ t) (texts_two fs gs)
    ∙ sym (append_assoc (field_text f) (texts_of fs) (texts_of gs))

-- a first field
pub first : (o o1 : List ℕ) (f : Field) → o1 ≡ o ++ field_text f → o1 ≡ o ++ texts_of (f ∷ [])
first o o1 f e = e ∙ ap (λ t. o ++ t) (sym (append-nil (field_text f)))

-- more fields behind
pub more : (o o1 o2 : List ℕ) (fs gs : List Field) → o2 ≡ o1 ++ texts_of gs → o1 ≡ o ++ texts_of fs → o2 ≡ o
    ++ texts_of (fs ++ gs)
more o o1 o2 fs gs e d = e ∙ ap (λ t. t ++ texts_of gs) d ∙ append_assoc o (texts_of fs) (texts_of gs)
    ∙ ap (λ t. o ++ t) (sym (texts_two fs gs))

-- one field behind
pub next : (o o1 o2 : List ℕ) (fs : List Field) (f : Field) → o2 ≡ o1 ++ field_text f → o1 ≡ o ++ texts_of fs → o2 ≡ o
    ++ texts_of (fs ++ f ∷ [])
next o o1 o2 fs f e d = more o o1 o2 fs (f ∷ []) (first o1 o2 f e) d

pub all_two : (fs gs : List Field) → AllByRecursion FitsValueOf fs → AllByRecursion FitsValueOf gs
    → AllByRecursion FitsValueOf (fs ++ gs)
all_two [] gs a b = b
all_two (f ∷ fs) gs a b = (a.0, all_two fs gs a.1 b)
