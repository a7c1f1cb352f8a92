use Rattle.std.proofs.Common.{◌≡◌, ◌++◌, IfOk, List, ℕ, ap, append_assoc, codes, decimal, subst, sym}
use Rattle.run_plan.proofs.status.document_refusal.Goals as goal

pub returns-in-BadLine : goal.returns-in-BadLine
returns-in-BadLine c = rw c.in-BadLine.is
    (subst (λ (told : List ℕ). IfOk c.numbered.result (λ line. line.items ≡ told))
    (ap (λ (rest : List ℕ). codes "document: line " ++ rest)
    (sym (append_assoc (decimal c.in-BadLine.number) (codes ": bad line") (codes "\n")))) c.numbered.ensures)

pub returns-in-TooBig : goal.returns-in-TooBig
returns-in-TooBig c = rw c.in-TooBig.is
    (subst (λ (told : List ℕ). IfOk c.numbered-in-TooBig.result (λ line. line.items ≡ told))
    (ap (λ (rest : List ℕ). codes "document: line " ++ rest)
    (sym (append_assoc (decimal c.in-TooBig.number) (codes ": too big") (codes "\n")))) c.numbered-in-TooBig.ensures)

pub returns-in-TooDeep : goal.returns-in-TooDeep
returns-in-TooDeep c = rw c.in-TooDeep.is
    (subst (λ (told : List ℕ). IfOk c.numbered-in-TooDeep.result (λ line. line.items ≡ told))
    (ap (λ (rest : List ℕ). codes "document: line " ++ rest)
    (sym (append_assoc (decimal c.in-TooDeep.number) (codes ": too deep") (codes "\n")))) c.numbered-in-TooDeep.ensures)
