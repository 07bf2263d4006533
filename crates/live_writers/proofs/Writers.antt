-- One more writer.
use Rattle.std.proofs.Common.{◌≡◌, ◌<◌, List, [], ◌∷◌, ◌++◌, length, get_or, sym, ◌∙◌, inl, inr}
use Rattle.std.proofs.lemmas.List.{get_or_append_left, get_or_push, get_or_default}
use Rattle.std.specs.declared.thread.PromisedHandle.{PromisedHandle}
use Rattle.gate_link_stages.specs.declared.post.Writer.{Writer}
use Rattle.gate_link_sessions.proofs.inboxes.OneMore.{snoc_cases}
use Rattle.live_writers.specs.declared.writing.Written.{Written}
use Rattle.live_writers.specs.declared.writing.WritePromise.{WritePromise}
use Rattle.live_writers.specs.code.Writing.{AreWriting}

pub writing_snoc : {A : Type 0} (ws : List (Writer A)) (hs : List (PromisedHandle (Written A) (WritePromise A)))
    (h : PromisedHandle (Written A) (WritePromise A)) (w : Writer A)
    → length hs < length ws → AreWriting ws hs → w ≡ get_or ws (length hs) w → h.promise.writer.value ≡ w
    → AreWriting ws (hs ++ h ∷ [])
writing_snoc ws hs h w in_ws started its is s d e below =
    elim (snoc_cases hs h s below) [
      | inl early ↦ rw (get_or_append_left hs (h ∷ []) e s early) (started s d e early)
      | inr last ↦ rw (get_or_push hs h e s (sym last), last) (is ∙ (its ∙ get_or_default ws (length hs) w d in_ws))
    ]
