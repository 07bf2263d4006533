use Rattle.std.proofs.Common.{sym, ◌∙◌}
use Rattle.fix_session_kinds.proofs.OneOfBytes.{byte_found, byte_not_found, no_byte, more_bytes}
use Rattle.fix_session_kinds.proofs.table.one_of.Goals as goal

pub returns-in-len1 : goal.returns-in-len1
returns-in-len1 c = byte_found c.args.text.now c.args.allowed.now c.in-len1.len_at_least c.in-len1.len_below
    (sym c.is_among.ensures ∙ c.if-is_among.true)

pub returns-in_default : goal.returns-in_default
returns-in_default c = no_byte c.args.text.now c.args.allowed.now c.in_default.len_below

pub returns-in_default-2 : goal.returns-in_default-2
returns-in_default-2 c = byte_not_found c.args.text.now c.args.allowed.now c.in-len1.len_at_least c.in-len1.len_below
    (sym c.is_among.ensures ∙ c.if-is_among.false)

pub returns-in_default-3 : goal.returns-in_default-3
returns-in_default-3 c = more_bytes c.args.text.now c.args.allowed.now c.in_default.len_at_least
