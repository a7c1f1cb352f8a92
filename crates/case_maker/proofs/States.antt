-- For `state_after`: draws behind draws.
use Rattle.std.proofs.Common.{◌≡◌, ◌+◌, ◌*◌, ◌∙◌, ℕ, zero, suc, ap, arith}
use Rattle.case_maker.specs.Draws.{next_state, state_after}

pub state_after-from : (draws before state : ℕ)
    → state_after draws (state_after before state) ≡ state_after (draws + before) state
state_after-from zero before state =
    let count : before ≡ zero + before = omega arith in
    ap (λ count. state_after count state) count
state_after-from (suc draws) before state =
    let count : suc (draws + before) ≡ suc draws + before = omega arith in
    ap next_state (state_after-from draws before state) ∙ ap (λ count. state_after count state) count

-- so many draws more, behind `place` times as many
pub state_after-step : (place draws first before after : ℕ) → before ≡ state_after (place * draws) first
    → after ≡ state_after draws before → after ≡ state_after ((place + 1) * draws) first
state_after-step place draws first before after is next =
    let count : draws + place * draws ≡ (place + 1) * draws = omega arith in
    next ∙ ap (λ state. state_after draws state) is ∙ state_after-from draws (place * draws) first
    ∙ ap (λ count. state_after count first) count
