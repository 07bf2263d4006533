use Rattle.std.proofs.Common.{refl, sym, ap, ◌∙◌}
use Rattle.fix_wire_frames.specs.Frames.{frames, frame_at}
use Rattle.fix_wire_frames.specs.Held.{first_frame, from_first_start}
use Rattle.fix_wire_frames.proofs.framing.FramesHeld.{start_again, start_frames, room_left}
use Rattle.fix_wire_framer.proofs.framer.Framer.next.Goals as goal

pub peek-requires-clause-settled : goal.peek-requires-clause-settled
peek-requires-clause-settled c = ap from_first_start c.skip_garbled-front_length.ensures.kept
    ∙ start_again c.args.self.now ∙ sym c.skip_garbled-front_length.ensures.kept

pub peek-requires-clause-front : goal.peek-requires-clause-front
peek-requires-clause-front c = c.skip_garbled-front_length.ensures.found
    ∙ ap frame_at (sym c.skip_garbled-front_length.ensures.kept)

pub returns : goal.returns
returns c =
    let first = c.peek.ensures ∙ ap (λ t. first_frame (frames t)) c.skip_garbled-front_length.ensures.kept
    ∙ ap first_frame (start_frames c.args.self.now) in (
      (refl, (λ _. tt), c.skip_garbled-front_length.ensures.kept),
      record {
        after = tt;
        first = first;
        room = λ none. room_left c.args.self.now (sym first ∙ none);
      },
    )
