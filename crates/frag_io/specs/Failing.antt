-- Which calls of a desk in memory fail.
use Rattle.std.specs.Prelude.{◌≡◌, ◌≢◌, ℕ, Contains}
use Rattle.frag_io.specs.declared.failing.CallKind.{CallKind}
use Rattle.frag_io.specs.declared.failing.CallKind.TheVariants.{Begin, Read, Write, Finish}
use Rattle.frag_io.specs.declared.failing.Plan.{Plan}
use Rattle.frag_io.specs.Count.{raised}

-- how many calls of a kind there were
abbrev pub calls_of : Plan → CallKind → ℕ
calls_of plan Begin = plan.begins.value
calls_of plan Read = plan.reads.value
calls_of plan Write = plan.writes.value
calls_of plan Finish = plan.finishes.value

-- The next call of this kind is one of those that are to fail.
abbrev pub IsDue : Plan → CallKind → Type 0
IsDue plan kind = Contains plan.failing.items (record { kind = kind; number = raised (calls_of plan kind) })

-- A call of this kind was counted: there is one more of it, and as many of each other kind; what is to fail stays.
pub record CountsCall (kind : CallKind) (before now : Plan) : Type 0 where
  pub own : calls_of now kind ≡ raised (calls_of before kind)
  pub others : (other : CallKind) → other ≢ kind → calls_of now other ≡ calls_of before other
  pub failing : now.failing ≡ before.failing
