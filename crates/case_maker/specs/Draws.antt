-- Numbers drawn one after another. A state is a number below 2 ^ 64, and a draw takes it to the next one. Source: this
-- project, with the multiplier and the increment that Knuth gives for 64 bits.
use Rattle.std.specs.Prelude.{◌+◌, ◌*◌, ◌/◌, ◌%◌, ◌^◌, ℕ, suc, zero}

-- the state behind a draw
abbrev pub next_state : ℕ → ℕ
next_state state = (state * 6364136223846793005 + 1442695040888963407) % 2 ^ 64

-- the state behind so many draws
abbrev pub state_after : ℕ → ℕ → ℕ
state_after zero state = state
state_after (suc draws) state = next_state (state_after draws state)

-- what the draw behind so many others answers: the upper part of the state behind it
abbrev pub draw_at : ℕ → ℕ → ℕ
draw_at place state = next_state (state_after place state) / 2 ^ 33
