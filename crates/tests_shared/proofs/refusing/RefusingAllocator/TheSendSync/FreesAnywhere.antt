-- What frees its blocks names no key, since what frees the inner allocator's names none.
use mir.Syntax.{Dict}
use denote.RattleType.{RattleType}
use denote.Param.Send.{Frees}
use Rattle.std.specs.declared.alloc.Allocator.{Ghosts}
use Rattle.tests_shared.specs.contracts.refusing.RefusingAllocator.TheImpl.{ghosts}

module _ (A : RattleType) (g : Ghosts A.Denot) where
  pub frees : (d e : Dict) → Frees g g.dealloc_token → Frees (ghosts A g d e) (ghosts A g d e).dealloc_token
  frees d e f = record { frees = λ h τ p. f.frees h.inner τ p }
