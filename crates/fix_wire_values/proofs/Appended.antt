-- A text put behind a text, and another behind that, are both behind what stood first.
use Rattle.std.proofs.Common.{◌≡◌, ℕ, List, ◌++◌, ap, ◌∙◌, append_assoc}

pub step : (o o1 o2 a b : List ℕ) → o2 ≡ o1 ++ b → o1 ≡ o ++ a → o2 ≡ o ++ (a ++ b)
step o o1 o2 a b e f = e ∙ ap (λ t. t ++ b) f ∙ append_assoc o a b
