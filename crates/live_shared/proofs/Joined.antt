-- One more joined thread.
use Rattle.std.proofs.Common.{◌≡◌, ◌<◌, List, [], ◌∷◌, ◌++◌, length, get_or, sym, ◌∙◌, inl, inr}
use Rattle.std.proofs.lemmas.List.{get_or_append_left, get_or_push, get_or_default}
use Rattle.std.specs.declared.thread.PromisedHandle.{PromisedHandle}
use Rattle.std.specs.declared.thread.Promise as Promise
use Rattle.gate_link_sessions.proofs.inboxes.OneMore.{snoc_cases}
use Rattle.live_shared.specs.code.Joining.{AreJoined}

pub joined_snoc : {T P : Type 0} (g : Promise.Ghosts P T) (hs : List (PromisedHandle T P)) (rs : List T) (r : T)
    (handle : PromisedHandle T P)
    → length rs < length hs → AreJoined g hs rs → handle ≡ get_or hs (length rs) handle → g.kept_by handle.promise r
    → AreJoined g hs (rs ++ r ∷ [])
joined_snoc g hs rs r handle in_hs kept its here s h d below =
    elim (snoc_cases rs r s below) [
      | inl early ↦ rw (get_or_append_left rs (r ∷ []) d s early) (kept s h d early)
      | inr last ↦
          let same : get_or hs (length rs) h ≡ handle = get_or_default hs (length rs) h handle in_hs ∙ sym its in
          rw (get_or_push rs r d s (sym last), last, same) here
    ]
