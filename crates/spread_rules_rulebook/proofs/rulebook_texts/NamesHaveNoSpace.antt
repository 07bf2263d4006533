-- What letters and digits are not.
use Rattle.std.proofs.Common.{◌≡◌, ℕ, ◌≤◌, Bool, true, false, not, ◌&&◌, eqb, List, [], ◌∷◌, length, Option, Some, None, IfSome, IfNone, refl, sym, ap, ◌∙◌, arith}
use Rattle.std.specs.List.{list_all}
use Rattle.std.proofs.lemmas.Bool.{eqb-true, false≢true, true≢false}
use Rattle.std.proofs.lemmas.Bool.Decides.{nat_tests}
use Rattle.spread_rules_ids.specs.Cut.{Lacks}
use Rattle.spread_rules_ids.specs.Ids.{is_plain, is_id, id_of}
use Rattle.spread_rules_rulebook.specs.Rulebook.{is_name_byte, IsName}

pub Lacks-name : (c : ℕ) → is_name_byte c ≡ false → (name : List ℕ) → list_all is_name_byte name ≡ true → Lacks c name
Lacks-name c other [] t = tt
Lacks-name c other (b ∷ bs) t = by (is_name_byte b) (Lacks-name c other bs) refl t
  where
    by : (r : Bool) → (list_all is_name_byte bs ≡ true → Lacks c bs) → is_name_byte b ≡ r
        → (r && list_all is_name_byte bs) ≡ true → Lacks c (b ∷ bs)
    by true rest e h = ((λ (same : b ≡ c). absurd (true≢false (sym e ∙ ap is_name_byte same ∙ other))), rest h)
    by false rest e h = absurd (false≢true h)

plain_of_Lacks : (bs : List ℕ) → Lacks 1 bs → is_plain bs ≡ true
plain_of_Lacks [] h = refl
plain_of_Lacks (b ∷ bs) h = by (eqb b 1) refl (plain_of_Lacks bs h.1)
  where
    by : (r : Bool) → eqb b 1 ≡ r → list_all (λ x. not (eqb x 1)) bs ≡ true
        → (not r && list_all (λ x. not (eqb x 1)) bs) ≡ true
    by true e rest = absurd (h.0 (eqb-true b 1 e))
    by false e rest = rest

pub name_is_id : (name : List ℕ) → IsName name → id_of name ≡ Some name
name_is_id name n =
    let plain : is_plain name ≡ true = plain_of_Lacks name (Lacks-name 1 refl name n.letters) in
    let some : 1 ≤ length name = n.some in
    let most : length name ≤ 15 = n.most in
    let is : is_id name ≡ true = grind (arith, nat_tests) in
    rw is refl

id_none : (name : List ℕ) → length name ≤ 15 → list_all is_name_byte name ≡ true → id_of name ≡ None → IsName name → ⊥
id_none name most letters e n = let s = name_is_id name n in absurd cc

id_some : (name id : List ℕ) → length name ≤ 15 → list_all is_name_byte name ≡ true → Some id ≡ id_of name → (id ≡ name)
    × IsName name
id_some [] id most letters e = absurd cc
id_some (b ∷ bs) id most letters e =
    let n : IsName (b ∷ bs) = record { some = omega arith; most = most; letters = letters } in
    let s = name_is_id (b ∷ bs) n in
    let same : id ≡ b ∷ bs = cc in
    (same, n)

pub name_found : (name : List ℕ) → length name ≤ 15 → list_all is_name_byte name ≡ true → (r : Option (List ℕ))
    → r ≡ id_of name → IfSome r (λ id. (id ≡ name) × IsName name)
name_found name most letters None e = tt
name_found name most letters (Some id) e = id_some name id most letters e

pub name_none : (name : List ℕ) → length name ≤ 15 → list_all is_name_byte name ≡ true → (r : Option (List ℕ))
    → r ≡ id_of name → IfNone r (IsName name → ⊥)
name_none name most letters None e = id_none name most letters (sym e)
name_none name most letters (Some id) e = tt
