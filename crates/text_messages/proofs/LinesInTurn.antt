-- The lines of the first things of a list.
use Rattle.std.proofs.Common.{◌≡◌, ℕ, zero, suc, ◌+◌, ◌<◌, List, [], ◌∷◌, ◌++◌, Option, length, take, get_or, refl, sym, ap, ◌∙◌, arith, subst, append_assoc, append-nil}
use Rattle.std.specs.List.{flat_map}
use Rattle.spread_rules_ends.specs.Ends.{AppendsPrefix}
use Rattle.text_messages.specs.code.Blocks.{IsPut}
use Rattle.text_messages.proofs.BlocksInTurn.{put_after, put_fails}

-- the line of one thing more
one_more : {A : Type 0} (line : A → List ℕ) (things : List A) (i : ℕ) (d : A) → i < length things
    → flat_map line (take (i + 1) things) ≡ flat_map line (take i things) ++ line (get_or things i d)
one_more line [] i d lt = absurd (omega arith)
one_more line (x ∷ things) zero d lt = append-nil (line x)
one_more line (x ∷ things) (suc i) d lt =
    let e : suc i + 1 ≡ suc (i + 1) = omega arith in
    ap (λ (n : ℕ). flat_map line (take n (x ∷ things))) e
    ∙ (ap (λ (t : List ℕ). line x ++ t) (one_more line things i d (omega (arith, lt)))
    ∙ sym (append_assoc (line x) (flat_map line (take i things)) (line (get_or things i d))))

-- the same of the thing that stands there
line_next : {A : Type 0} (line : A → List ℕ) (things : List A) (i : ℕ) (x : A) → x ≡ get_or things i x
    → i < length things → flat_map line (take (i + 1) things) ≡ flat_map line (take i things) ++ line x
line_next line things i x is lt = one_more line things i x lt
    ∙ sym (ap (λ (y : _). flat_map line (take i things) ++ line y) is)

-- the lines of the first things stand before those of all others
lines_rest : {A : Type 0} (line : A → List ℕ) (things : List A) (n : ℕ) → (rest : List ℕ)
    × (flat_map line things ≡ flat_map line (take n things) ++ rest)
lines_rest line things zero = (flat_map line things, refl)
lines_rest line [] (suc n) = ([], refl)
lines_rest line (x ∷ things) (suc n) =
    let later = lines_rest line things n in (
      later.0,
      ap (λ (t : List ℕ). line x ++ t) later.1 ∙ sym (append_assoc (line x) (flat_map line (take n things)) later.0),
    )

module _ {A : Type 0} (line : A → List ℕ) (things : List A) (i : ℕ) (x : A) (bytes : List ℕ) (a b c : Option (List ℕ))
    (old mid new : List ℕ) (is : x ≡ get_or things i x) (lt : i < length things)
    (text : bytes ≡ line x) (before : IsPut a b mid (old ++ flat_map line (take i things))) where
  next : flat_map line (take (i + 1) things) ≡ flat_map line (take i things) ++ bytes
  next = line_next line things i x is lt ∙ ap (λ (t : List ℕ). flat_map line (take i things) ++ t) (sym text)

  -- the line was put behind those before it
  pub line_put : IsPut b c new (mid ++ bytes) → IsPut a c new (old ++ flat_map line (take (i + 1) things))
  line_put put = subst (λ (t : List ℕ). IsPut a c new (old ++ t)) (sym next)
      (put_after a b c old mid new (flat_map line (take i things)) bytes before put)

  -- it could not be put: a front of all lines is out
  pub line_fails : AppendsPrefix b c (mid ++ bytes) → AppendsPrefix a c (old ++ flat_map line things)
  line_fails front =
      let rest = lines_rest line things (i + 1) in
      put_fails a b c old mid (flat_map line (take i things)) bytes rest.0 (flat_map line things) before front
      (rest.1 ∙ (ap (λ (t : List ℕ). t ++ rest.0) next ∙ append_assoc (flat_map line (take i things)) bytes rest.0))
