-- `is_due` at a call: what it is handed, and what a caller has of it. Assumes `Logic`.
use Rattle.std.proofs.Common.{◌≡◌, ℕ, Bool, List, [], ◌∷◌, refl, ap}
use seplogic.Ra.Ura.{Ura}
use mir.Val.{Val, vbool, vptr}
use base.Logic.{SProp, ent, sep, ex, guard, id⊢}
use base.Fml.{Lft, Share, ftrue, fsep, flft}
use prog.Memory.{Memory}
use prog.Routine.{Routine}
use types.Logic.{Logic, sem}
use contract.Monad.{Fun}
use types.Kit.{‵, ◌⊛◌, some, later, ◌$◌, ◌∵◌, !, qed, move, keep, use1, split, join, pick, fjoin, feq_i, feq_l, check, show, await, updating, now as at_once, done}
use denote.RattleType.{RattleType}
use denote.Memory.{hidden_shr}
use denote.Builtin.{bool}
use denote.Steps.{nothing, only}
use denote.Triple.Statement.{Contract}
use denote.Triple.Spec.{triple_of}
use Rattle.std.specs.contracts.sync.atomic.AtomicU64 as CE
use Rattle.tests_shared.specs.contracts.refusing.is_due as DU

abbrev Calls : RattleType
Calls = CE.the_row

module _ {M : Type 1} {𝓤 : Ura M} (𝓛 : Logic 𝓤) (at_mem : Memory → SProp 𝓤) (run : Routine → Fun 𝓤) where
  abbrev pub Due : Contract 𝓤
  Due = triple_of 𝓛 DU.signature (DU.spec 𝓛 at_mem run)

  abbrev pub at_due : Lft → Share → ℕ × ℕ → Due.Ghost
  at_due κ q c = (((κ, tt), (q, tt), tt, (record { ref_ptr = c; now = tt }, tt), (vptr c.0 c.1 ∷ [], tt)), tt)

module _ {M : Type 1} {𝓤 : Ura M} (𝓛 : Logic 𝓤) (at_mem : Memory → SProp 𝓤) (run : Routine → Fun 𝓤) (κ : Lft)
    (q : Share) (c : ℕ × ℕ) where
  open 𝓛 use {H, A}

  pub Due-goes : ent 𝓤 (sep 𝓤 (sem 𝓛 (hidden_shr Calls κ tt c.0 c.1)) (A.lft κ q))
      ((Due 𝓛 at_mem run).pre (at_due 𝓛 at_mem run κ q c))
  Due-goes =
      qed 𝓛 (‵ (hidden_shr Calls κ tt c.0 c.1) ∷ ‵ (flft κ q) ∷ []) ∵ feq_i ! (List Val) (vptr c.0 c.1 ∷ [])
      (vptr c.0 c.1 ∷ []) refl $ fjoin ! $
      nothing ! $ move ! (1 ∷ []) $ fjoin ! $ nothing ! $ move ! (2 ∷ []) $ join ! $ join ! $ nothing ! $ move !
      (1 ∷ []) $ done !

  pub Due-gives : (v : Val) → ent 𝓤 ((Due 𝓛 at_mem run).post (at_due 𝓛 at_mem run κ q c) v)
      (H.⇛ (ex 𝓤 (λ (b : Bool). guard 𝓤 (v ≡ vbool b) (A.lft κ q))))
  Due-gives v =
      qed 𝓛 (types.Kit.raw ((Due 𝓛 at_mem run).post (at_due 𝓛 at_mem run κ q c) v) ∷ []) ∵ updating ! $
      use1 𝓛 (later (some (λ (b : Bool). ((‵ (flft κ q) ⊛ ‵ ftrue) ⊛ ‵ (bool.own_val b (v ∷ []))) ⊛ some
      (λ (ws : Unit {0} × Unit {0}). ‵ (fsep ftrue ftrue) ⊛ ‵ ftrue)))) (id⊢ 𝓤 _) $ await ! tt $ pick ! (λ b.
      split ! $ split ! $ move ! (1 ∷ []) $ feq_l ! (λ e. split ! $ at_once ! $ show !
      (λ (b : Bool). guard 𝓤 (v ≡ vbool b) (A.lft κ q)) b $ check ! (ap only e) $ keep ! (0 ∷ []) $ done !))
