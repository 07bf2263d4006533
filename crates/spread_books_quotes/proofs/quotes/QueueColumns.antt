-- in which column a queue is
use Rattle.std.proofs.Common.{◌≡◌, ℕ, nat_lt, Bool, true, false, cond, refl, inl, inr, ◌⊎◌}
use Rattle.spread_rules.specs.declared.order.Side.{Side}
use Rattle.spread_rules.specs.declared.order.Side.TheVariants.{Buy, Sell}
use Rattle.spread_rules_rulebook.specs.declared.instrument.Instrument.TheVariants.{Outright, Spread}
use Rattle.spread_rules.specs.Legs.{other_side}
use Rattle.spread_books_search.specs.code.Cheapest.{IsInColumn}

pub no_outright : (j m k : ℕ) (b : Bool) → Outright j ≡ cond b (Spread m k) (Spread k m) → ⊥
no_outright j m k true e = cc
no_outright j m k false e = cc

pub outright_column : (j : ℕ) (s t : Side) (m k : ℕ) → IsInColumn (Outright j) s t m k → (s ≡ other_side t) × (k ≡ j)
outright_column j s t m k (inl e) = absurd (no_outright j m k (nat_lt m k) e.0)
outright_column j s t m k (inr e) = (e.1, let i = e.0 in cc)

pub spread_at : (near far m k : ℕ) (s t : Side) (b : Bool) → Spread near far ≡ cond b (Spread m k) (Spread k m)
    → s ≡ cond b (other_side t) t →
    ((s ≡ other_side t) × (m ≡ near) × (k ≡ far)) ⊎ ((s ≡ t) × (m ≡ far) × (k ≡ near))
spread_at near far m k s t true e f = inl (f, cc, cc)
spread_at near far m k s t false e f = inr (f, cc, cc)

pub spread_column : (near far : ℕ) (s t : Side) (m k : ℕ) → IsInColumn (Spread near far) s t m k
    → ((s ≡ other_side t) × (m ≡ near) × (k ≡ far)) ⊎ ((s ≡ t) × (m ≡ far) × (k ≡ near))
spread_column near far s t m k (inl e) = spread_at near far m k s t (nat_lt m k) e.0 e.1
spread_column near far s t m k (inr e) = let i = e.0 in cc

pub not_other : (s : Side) → s ≡ other_side s → ⊥
not_other Buy e = cc
not_other Sell e = cc

pub other_or_same : (t s : Side) → (t ≡ other_side s) ⊎ (t ≡ s)
other_or_same Buy Buy = inr refl
other_or_same Buy Sell = inl refl
other_or_same Sell Buy = inl refl
other_or_same Sell Sell = inr refl

pub back : (s t : Side) → s ≡ other_side t → t ≡ other_side s
back Buy Sell e = refl
back Sell Buy e = refl
back Buy Buy e = cc
back Sell Sell e = cc
