use Rattle.std.proofs.Common.{append_assoc, rules}
use Rattle.run_plan.proofs.status.push_refusal.Goals as goal

pub returns-in_ok-push_named-in-UnknownKey : goal.returns-in_ok-push_named-in-UnknownKey
returns-in_ok-push_named-in-UnknownKey c = rw c.in-UnknownKey.is (search (
  rules,
  append_assoc,
  c.in_ok-push_named-in-UnknownKey.ensures,
))

pub returns-in_ok-extend_from_slice-in-OverLimit-2 : goal.returns-in_ok-extend_from_slice-in-OverLimit-2
returns-in_ok-extend_from_slice-in-OverLimit-2 c =
    rw c.in-OverLimit.is
    (search (
      rules,
      append_assoc,
      c.in_ok-push_named-in-OverLimit.ensures,
      c.in_ok-extend_from_slice-in-OverLimit.ensures.items,
      c.in_ok-digits-in-OverLimit.ensures.ok,
      c.as_bytes.ensures.value,
      c.in_ok-extend_from_slice-in-OverLimit-2.ensures.items,
    ))
