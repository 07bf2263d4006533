-- What day lines say.
use Rattle.std.specs.Prelude.{ℕ, ◌+◌, Bool, false, not, ◌&&◌, ◌==◌, nat_eq, if◌then◌else◌, List, [], ◌∷◌, ◌++◌, map, filter, drop, length, decimal, Result, Ok, Err}
use Rattle.std.specs.List.{list_any, flat_map, position_or_len, range_with_len, slice_split, starts_with}
use Rattle.spread_rules_ids.specs.declared.limits.TheConstants.{SESSIONS}
use Rattle.spread_rules_ids.specs.declared.bytes.TheConstants.{COLON, LINE_FEED, NUMBER_SIGN}
use Rattle.fix_wire_frames.specs.Texts.{with_soh}

-- some bytes of a session's stream
pub record DayLine : Type 0 where
  pub session : ℕ
  pub bytes : List ℕ

-- what a line says that begins with a session from 0 to 15 and a colon: the bytes behind them
abbrev pub session_line : List ℕ → List DayLine
session_line line =
    map (λ s. record { session = s; bytes = drop (length (decimal s) + 1) line })
    (filter (λ s. starts_with nat_eq line (decimal s ++ COLON ∷ [])) (range_with_len 0 SESSIONS))

-- a line that is neither empty, nor a comment, which begins with `#`, nor of a session
abbrev pub is_bad : List ℕ → Bool
is_bad [] = false
is_bad (b ∷ bs) = not (b == NUMBER_SIGN) && (length (session_line (b ∷ bs)) == 0)

-- What a text says in which `|` stands for SOH: the lines of sessions, or the number of the first bad line, counted
-- from 1. The lines are what stands between line feeds.
abbrev pub day_lines_of : List ℕ → Result (List DayLine) ℕ
day_lines_of text =
    let lines = slice_split (λ b. b == LINE_FEED) (with_soh text) in
    if list_any is_bad lines then Err (position_or_len is_bad lines + 1)
    else Ok (flat_map session_line lines)
