-- The body of a lawful frame.
use Rattle.std.proofs.Common.{◌≡◌, ℕ, true, List, Some, length, option_map, sym, ap, ◌∙◌, subst}
use Rattle.std.proofs.lemmas.Bool.{and_parts}
use Rattle.std.proofs.lemmas.Option.{same_Some}
use Rattle.fix_wire_frames.specs.Frames.{IsFrame, header, body_at}
use Rattle.fix_wire_frames.specs.code.Frames.{is_body}
use Rattle.fix_wire_frames.proofs.framing.FrontStays.{frame_parts}

-- it is one
pub body_lawful : (frame body : List ℕ) → IsFrame frame → option_map (body_at frame) (header frame) ≡ Some body
    → is_body body ≡ true
body_lawful frame body lawful framed =
    frame_parts frame (length frame) lawful (λ h head intact len fits.
    let same : body_at frame h ≡ body = same_Some _ _ (sym (ap (option_map (body_at frame)) head) ∙ framed) in
    let body = (and_parts (is_body (body_at frame h)) _ intact).0 in
    subst (λ b. is_body b ≡ true) same body)
