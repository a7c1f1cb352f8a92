-- What orders and tables that the code has stand for.
use Rattle.std.specs.Option.{option_copied}
use Rattle.order_words.specs.declared.orders.ListNames.{ListNames as NamesRead}
use Rattle.order_words.specs.declared.orders.DocumentNames.{DocumentNames as DocumentNamesRead}
use Rattle.order_words.specs.declared.orders.Order.{Order as OrderRead}
use Rattle.order_words.specs.declared.orders.Order.TheVariants.{List as ListRead, Solve as SolveRead}
use Rattle.order_words.specs.declared.orders.Order.TheVariants.{Check as CheckRead}
use Rattle.order_words.specs.Orders.{ListNames, DocumentNames, Order, list, solve, check}

-- the names that the code reads, as texts
abbrev pub names_of : NamesRead → ListNames
names_of names = record { spectra = names.spectra.now; profile = option_copied names.profile; adduct = names.adduct }

abbrev pub document_names_of : DocumentNamesRead → DocumentNames
document_names_of names = record {
  spectra = names.spectra.now;
  document = names.document.now;
  profile = option_copied names.profile;
  adduct = names.adduct;
}

-- the order that the code reads
abbrev pub order_read : OrderRead → Order
order_read (ListRead names) = list (names_of names)
order_read (SolveRead names) = solve (document_names_of names)
order_read (CheckRead names) = check (document_names_of names)
