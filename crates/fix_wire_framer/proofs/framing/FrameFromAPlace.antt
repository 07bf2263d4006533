-- The first frame from a place on, and the place where it ends.
use Rattle.std.proofs.Common.{◌≡◌, ℕ, ◌+◌, ◌-◌, ◌≤◌, List, length, take, drop, Some, sym, ap, ◌∙◌, arith}
use Rattle.std.specs.Prelude.{slice_range}
use Rattle.std.proofs.lemmas.List.{drop-drop, length-drop}
use Rattle.fix_wire_frames.specs.Frames.{frame_at}
use Rattle.fix_wire_frames.specs.Held.{from_first_start, past_frame}
use Rattle.fix_wire_framer.specs.FramePlaces.{EndsFirst}
use Rattle.fix_wire_frames.proofs.framing.FrontStays.{frame_within}

-- the bytes of the frame
pub frame_part : (held : List ℕ) (at skip n : ℕ) → drop skip (drop at held) ≡ from_first_start (drop at held)
    → slice_range held (at + skip) (at + skip + n) ≡ take n (from_first_start (drop at held))
frame_part held at skip n kept =
    let size : at + skip + n - (at + skip) ≡ n = omega arith in
    ap (λ k. take k (drop (at + skip) held)) size ∙ ap (take n) (sym (drop-drop skip at held) ∙ kept)

pub ends_first : (held : List ℕ) (skip n : ℕ) → drop skip held ≡ from_first_start held
    → frame_at (from_first_start held) ≡ Some n → skip + n ≤ length held → EndsFirst held 0 (skip + n)
ends_first held skip n kept e fits =
    let within = frame_within (from_first_start held) n e in (
      omega (arith, within.0),
      fits,
      sym (drop-drop n skip held) ∙ ap (drop n) kept ∙ sym (ap (λ o. past_frame o (from_first_start held)) e),
    )

-- a frame of what follows a place
pub ends_later : (held : List ℕ) (at n : ℕ) → at ≤ length held → EndsFirst (drop at held) 0 n
    → EndsFirst held at (at + n)
ends_later held at n l ends = (
  omega (arith, ends.0),
  omega (arith, ends.1, l, length-drop at held),
  sym (drop-drop n at held) ∙ ends.2,
)
