-- What a tree with its certificate is, as a plain value.
use Rattle.std.specs.Prelude.{ℤ, List}
use Rattle.tree_certificate.specs.Value.{CertValue}
use Rattle.tree_document.specs.declared.entry.Mark.{Mark}
use Rattle.tree_document.specs.declared.entry.TreeRow.{TreeRow}

pub record TreeValue : Type 0 where
  pub score : ℤ
  pub upper : ℤ
  pub mark : Mark
  pub rows : List TreeRow
  pub cert : CertValue
