-- It refuses the request that is due, and else answers what the inner allocator answers. Assumes `Logic`.
use Rattle.std.proofs.Common.{◌≡◌, ℕ, Bool, ◌+◌, ◌^◌, ◌<◌, true, false, List, [], ◌∷◌, Ok, Err, refl, w64, Bor}
use seplogic.Ra.Ura.{Ura}
use mir.Syntax.{Ty, Args, Fn, a_type, dnil, dcons}
use mir.Val.{Val, vbool, vint, vptr}
use mir.MapTy.{inst_fn}
use base.Logic.{SProp, ent, id⊢}
use base.Fml.{Lft, Share, ftrue, flft}
use prog.Memory.{Memory, size, align, capped, up}
use prog.Routine.{Routine}
use prog.Wp.{WpFn, Tables}
use types.Logic.{Logic}
use contract.BorrowLft.{◌⊑◌, ⊑_trans}
use contract.Monad.{Fun, fact}
use contract.Running.{tables, tables_of}
use sound.WpLaws.{fm_of, WpFn-mono}
use types.Run.{stop, fld, addr, lit, no_more, and_then, first, branches, skips, exec, returns, returns_within, enter}
use denote.Exit.{yes}
use denote.RattleType.{owns}
use denote.Ref.{shr_vals}
use denote.Opens.{unhide}
use denote.Param.{bounded, param}
use denote.Plain.{uint_vals, uint_Tells}
use denote.Signature.{Slot, plain, types_at}
use denote.Steps.{heard, nothing}
use denote.Triple.Clauses.{Ended, Clauses}
use denote.Triple.Spec.{triple_of}
use denote.Triple.Statement.{Triple}
use denote.Triple.Table.{entered, cited}
use denote.Triple.Walked.{Stays, stay_dropped, walk_of, ends_at, walked, Goes-dropped, walk_Meets}
use types.Kit.{‵, raw, ◌⊛◌, some, later, given, at_ret, pick, learn, ◌$◌, ◌∵◌, !, qed, move, keep, use0, use1, use2, split, join, fsplit, fjoin, suffices, await, done}
use types.ByLocal.{alloc_all, pass_all, free_all, look_at, get, through, sets, lands_as, env}
use types.Part.{agg}
use denote.RawPtr.{block_ptr}
use denote.Builtin.{usize, RefOf}
use denote.Triple.Call.{calls_at}
use Rattle.std.proofs.alloc.Calls.{Al, α, seen, Answer, answer_val, Answer-typed, Answer-Ok, Answer-err, takes_key, Takes, at_takes, Answered, Takes-goes, Takes-gives, answers}
use Rattle.tests_shared.proofs.Shapes.{after}
use Rattle.tests_shared.proofs.Due.{Due, at_due, Due-goes, Due-gives}
use Rattle.tests_shared.proofs.refusing.is_due.Symbol as c_sym
use Rattle.tests_shared.proofs.refusing.is_due.Met as c_met
use Rattle.tests_shared.specs.contracts.refusing.Refusing as wrapper
use Rattle.tests_shared.specs.contracts.refusing.RefusingAllocator.allocate as F
use Rattle.tests_shared.specs.contracts.refusing.RefusingAllocator.allocate.Key as key
use Rattle.tests_shared.proofs.refusing.RefusingAllocator.allocate.Statement as stated
use Rattle.tests_shared.proofs.refusing.RefusingAllocator.allocate.Code as code

module _ (Z : Al) where
  abbrev args : Args
  args = bounded (a_type ∷ []) (Z.row, tt) (dcons Z.d (dcons Z.drops dnil))

  abbrev here : Fn
  here = inst_fn args code.function

  abbrev self : Slot 2
  self = RefOf (0 ∷ []) tt (plain (λ _. wrapper.the_row (param 0 Z.row))) (λ _. tt)

  abbrev ended : Ended
  ended = F.ended Z.row Z.g Z.d Z.drops

  abbrev stayed : Stays ended.signature.params ended.kept
  stayed = (stay_dropped self yes, (stay_dropped (plain (λ _. usize)) yes, (stay_dropped (plain (λ _. usize)) yes, tt)))

module _ (Z : Al) {M : Type 1} {𝓤 : Ura M} (𝓛 : Logic 𝓤) (at_mem : Memory → SProp 𝓤) (run : Routine → Fun 𝓤)
    (𝓣 : Tables 𝓤 𝓛.H) (tk : Triple 𝓤 (𝓣.C (takes_key Z)) (Takes Z 𝓛 at_mem run))
    (kn : Triple 𝓤 (𝓣.C c_sym.name) (Due 𝓛 at_mem run)) where
  open 𝓛 use {H}

  abbrev held : Clauses 𝓤 (ended Z)
  held = F.clauses Z.row Z.g Z.d Z.drops 𝓛 at_mem run

  module _ (κ₁ κ₂ : Lft) (q₁ q₂ : Share) (inn : κ₁ ⊑ κ₂) (r : Bor (wrapper.the_row Z.row).Denot) (n a : ℕ) (τ : Ty)
    where
      abbrev bound : (walk_of 𝓛 (ended Z) (stayed Z) held).Ghost
      bound = (
        (
          (κ₁, (κ₂, tt)),
          (q₁, (q₂, tt)),
          (inn, tt),
          (r, (n, (a, tt))),
          (shr_vals r, (vint w64 n ∷ [], (vint w64 a ∷ [], tt))),
        ),
        τ,
      )

      abbrev vs : List Val
      vs = vptr r.ref_ptr.0 r.ref_ptr.1 ∷ vint w64 n ∷ vint w64 a ∷ []

      walk : n < 2 ^ 64 → a < 2 ^ 64 → ent 𝓤 ((walk_of 𝓛 (ended Z) (stayed Z) held).pre bound)
          (WpFn 𝓤 H 𝓣.C 𝓣.Λ (here Z) vs ((walk_of 𝓛 (ended Z) (stayed Z) held).post bound))
      walk fn fa =
          let h : Z.row.Denot = r.now.inner in
          let p : ℕ × ℕ = (r.ref_ptr.0, r.ref_ptr.1 + up (align (α Z)) 0) in
          let c : ℕ × ℕ = (r.ref_ptr.0, r.ref_ptr.1 + up 8 (up (align (α Z)) 0 + size (α Z))) in
          let y : (Takes Z 𝓛 at_mem run).Ghost = at_takes Z 𝓛 at_mem run κ₁ q₁ p h n a τ in
          let Said : Type 0 = (capped (size τ) ≡ n) × (capped (align τ) ≡ a) in
          qed 𝓛 (((‵ (flft κ₁ q₁) ⊛ ‵ (flft κ₂ q₂) ⊛ ‵ ftrue) ⊛ ‵
          (owns (types_at (ended Z).signature.params bound.0.0) bound.0.3 bound.0.4)) ∷
          (raw (fact 𝓤 (κ₂ ⊑ Z.row.lives)) ⊛ raw (fact 𝓤 Said)) ∷ []) ∵
          move ! (1 ∷ []) $ split ! $ heard ! (κ₂ ⊑ Z.row.lives) (λ le. heard ! Said (λ said.
          split ! $ split ! $ move ! (2 ∷ []) $ fsplit ! $ fsplit ! $ move ! (1 ∷ []) $ unhide ! $ fsplit ! $ fsplit ! $
          use1 𝓛 (‵ (seen Z κ₁ p h)) (id⊢ 𝓤 _) $ move ! (1 ∷ []) $ fsplit ! $ keep ! (0 ∷ 6 ∷ 2 ∷ 7 ∷ []) $
          enter ! 𝓣.C 𝓣.Λ (here Z) vs _ $ alloc_all ! (λ l. pass_all ! refl
          ((tt, tt), ((tt, record { fits = fn }), ((tt, record { fits = fa }), tt))) $
          sets ! (addr ! (through ! refl (fld ! refl (stop !)))) refl (tt, tt) $
          use2 𝓛 (raw ((Due 𝓛 at_mem run).pre (at_due 𝓛 at_mem run κ₁ q₁ c))) (Due-goes 𝓛 at_mem run κ₁ q₁ c) $
          calls_at ! (fm_of 𝓤 H 𝓛.laws 𝓣) (Due 𝓛 at_mem run) kn (at_due 𝓛 at_mem run κ₁ q₁ c)
          (and_then ! (get ! refl) (no_more !)) (λ u.
          use1 𝓛 (later (some (λ (b : Bool). given (u ≡ vbool b) (‵ (flft κ₁ q₁))))) (Due-gives 𝓛 at_mem run κ₁ q₁ c u)
          $
          await ! tt $ pick ! (λ b. learn ! (λ eu. lands_as ! eu refl (tt, tt) $
          first ! $ branches ! (get ! refl)
          (λ t. sets ! (agg ! (no_more !)) refl (tt, tt) $
          sets ! (agg ! (and_then ! (lit ! tt) (and_then ! (get ! refl) (no_more !)))) refl (Answer-typed false 0 0) $
          returns_within ! ((walk_of 𝓛 (ended Z) (stayed Z) held).post bound) refl (look_at ! 0 refl) $ free_all ! refl
          $
          keep ! (0 ∷ 2 ∷ []) $ nothing ! $
          suffices ! _ (ends_at 𝓛 (ended Z) (stayed Z) held bound (answer_val false 0 0) (Err (record {}))
          (tt, (tt, (tt, tt))) (tt, (tt, (tt, tt)))) $
          use0 𝓛 (‵ (Answer.own_val (Err (record {})) (answer_val false 0 0 ∷ []))) (Answer-err 𝓛) $ nothing ! $ nothing
          !
          $ fjoin ! $ nothing ! $ fjoin ! $ nothing ! $ fjoin ! $ join ! $
          move ! (2 ∷ 3 ∷ []) $ join ! $ join ! $ done !)
          (λ t. skips ! $ exec ! 𝓣.C 𝓣.Λ (env (here Z).locals l) (after 3 (here Z).body)
          (at_ret _ ((walk_of 𝓛 (ended Z) (stayed Z) held).post bound)) $ move ! (1 ∷ []) $
          sets ! (addr ! (through ! refl (fld ! refl (stop !)))) refl (tt, tt) $
          use2 𝓛 (raw ((Takes Z 𝓛 at_mem run).pre y)) (Takes-goes Z 𝓛 at_mem run κ₁ q₁ p h
          (⊑_trans κ₁ κ₂ Z.row.lives inn le) n a τ said.0 said.1 fn fa) $
          calls_at ! (fm_of 𝓤 H 𝓛.laws 𝓣) (Takes Z 𝓛 at_mem run) tk y
          (and_then ! (get ! refl) (and_then ! (get ! refl) (and_then ! (get ! refl) (no_more !)))) (λ v.
          use1 𝓛 (later (raw (Answered Z 𝓛 at_mem run h τ v) ⊛ ‵ (flft κ₁ q₁)))
          (Takes-gives Z 𝓛 at_mem run κ₁ q₁ p h n a τ v) $ await ! tt $ split ! $
          answers Z ! at_mem run h τ v
          (λ b o e. fjoin ! $ lands_as ! e refl (Answer-typed true b o) $ returns ! (look_at ! 0 refl) $ free_all ! refl
          $
          suffices ! _ (ends_at 𝓛 (ended Z) (stayed Z) held bound (answer_val true b o) (Ok (block_ptr b o))
          (tt, (tt, (tt, tt))) (tt, (tt, (tt, tt)))) $
          use0 𝓛 (‵ (Answer.own_val (Ok (block_ptr b o)) (answer_val true b o ∷ []))) (Answer-Ok 𝓛 b o) $ nothing ! $
          nothing ! $ fjoin ! $ nothing ! $ fjoin ! $ nothing ! $ fjoin ! $ join ! $
          move ! (2 ∷ 3 ∷ []) $ join ! $ join ! $ done !)
          (λ e. nothing ! $ lands_as ! e refl (Answer-typed false 0 0) $ returns ! (look_at ! 0 refl) $ free_all ! refl
          $
          suffices ! _ (ends_at 𝓛 (ended Z) (stayed Z) held bound (answer_val false 0 0) (Err (record {}))
          (tt, (tt, (tt, tt))) (tt, (tt, (tt, tt)))) $
          use0 𝓛 (‵ (Answer.own_val (Err (record {})) (answer_val false 0 0 ∷ []))) (Answer-err 𝓛) $ nothing ! $ nothing
          !
          $ fjoin ! $ nothing ! $ fjoin ! $ nothing ! $ fjoin ! $ join ! $
          move ! (2 ∷ 3 ∷ []) $ join ! $ join ! $ done !)))))))))

pub allocate_spec : {M : Type 1} → stated.statement M
unfolding tables_of
allocate_spec 𝓤 𝓛 𝓜 𝓡 wired Y L g d d' met _ =
    let Z : Al = record { row = Y; laws = L; g = g; d = d; drops = d' } in
    let A = 𝓛.A in
    let 𝓣 : Tables 𝓤 𝓛.H = tables_of 𝓤 𝓛.H 𝓜 (tables 𝓤 𝓛.H 𝓜 𝓡 𝓡.env) in
    let c = F.clauses Y g d d' 𝓛 𝓜.mem 𝓡.returns in
    entered 𝓤 𝓛.H (triple_of 𝓛 (F.signature Y) (F.spec Y g d d' 𝓛 𝓜.mem 𝓡.returns)) 𝓣.C 𝓣.Λ (key.name (args Z)) (here Z)
    (code.unfolded 𝓤 𝓛.H 𝓜 𝓡 wired (Y, tt) d d')
    (walk_Meets 𝓛 (ended Z) (stayed Z) (
      Goes-dropped 𝓛 2 (self Z) yes (λ κs x f. refl),
      (
        Goes-dropped 𝓛 2 (plain (λ _. usize)) yes (λ κs x f. refl),
        (Goes-dropped 𝓛 2 (plain (λ _. usize)) yes (λ κs x f. refl), tt),
      ),
    ) c (WpFn 𝓤 𝓛.H 𝓣.C 𝓣.Λ (here Z))
    (WpFn-mono 𝓤 𝓛.H 𝓛.laws 𝓣 (here Z))
    (walked 𝓛 (ended Z) (stayed Z) c (WpFn 𝓤 𝓛.H 𝓣.C 𝓣.Λ (here Z))
    (λ κs. (shr_vals, (uint_vals w64, (uint_vals w64, tt))))
    (λ κs. ((λ r vs s. s.0), (uint_Tells w64, (uint_Tells w64, tt))))
    (λ κs qs bounds a τ are. walk Z 𝓛 𝓜.mem 𝓡.returns 𝓣 (met.allocate d')
    (cited 𝓤 𝓛.H _ 𝓜 𝓡 𝓡.env c_sym.name (𝓡.env c_sym.name) refl
    (c_met.met 𝓤 𝓛 𝓜 𝓡 (code.calls-tests_shared::refusing::is_due 𝓡.env wired))) κs.0 κs.1.0 qs.0 qs.1.0 bounds.0
    a.0 a.1.0 a.1.1.0 τ are.1.0.1 are.1.1.0.1)))
