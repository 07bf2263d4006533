use Rattle.fix_wire_frames.proofs.texts.WordAtTheFront.{opens_short}
use Rattle.fix_wire_frames.proofs.frame.is_header_open.Goals as goal

pub returns-then-text-lt-BEGIN_BYTES : goal.returns-then-text-lt-BEGIN_BYTES
returns-then-text-lt-BEGIN_BYTES c = opens_short c.args.text.now c.starts_with.result
    c.starts_with-then-text-lt-BEGIN_BYTES.result c.starts_with.ensures.value c.if-starts_with.false
    c.if-text-lt-BEGIN_BYTES.true c.starts_with-then-text-lt-BEGIN_BYTES.ensures.value
