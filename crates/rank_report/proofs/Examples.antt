-- Of the JSON report: worked examples, computed.
use Rattle.std.proofs.Common.{◌≡◌, ◌++◌, ℕ, pos, negsuc, List, [], ◌∷◌, codes, refl}
use Rattle.std.specs.Fmt.{digits}
use Rattle.json.specs.Print.{escape_byte}
use Rattle.tree_certificate.specs.Value.{CertValue}
use Rattle.tree_document.specs.declared.document.Body.TheVariants.{Skipped, Solved}
use Rattle.tree_document.specs.declared.document.Document.{Document}
use Rattle.tree_document.specs.declared.document.Ending.TheVariants.{Clean, Refused}
use Rattle.tree_document.specs.declared.document.Skip.TheVariants.{TooMany}
use Rattle.tree_document.specs.declared.entry.Entry.{Entry}
use Rattle.tree_document.specs.declared.entry.Mark.TheVariants.{Gap, Optimal}
use Rattle.tree_document.specs.declared.entry.Outcome.TheVariants.{Tree, TooLarge}
use Rattle.rank_report.specs.JsonReport.{ending_json_of, entry_json, report_json_of, section_json_of}

-- so many atoms of hydrogen, carbon and oxygen
abbrev of_atoms : ℕ → ℕ → ℕ → List ℕ
of_atoms hydrogen carbon oxygen =
    hydrogen ∷ carbon ∷ 0 ∷ oxygen ∷ 0 ∷ 0 ∷ 0 ∷ 0 ∷ 0 ∷ 0 ∷ 0 ∷ 0 ∷ 0 ∷ 0 ∷ 0 ∷ 0 ∷ []

abbrev glucose_entry : CertValue → Entry
glucose_entry cert = record {
  candidate = of_atoms 12 6 6;
  error = 360;
  outcome = Tree (record {
    score = pos 62;
    upper = pos 62;
    mark = Optimal;
    rows = (record {
      edge = 0;
      parent = 0;
      peak = 1;
      formula = of_atoms 10 6 5;
      loss = of_atoms 2 0 1;
      weight = pos 52;
    }) ∷ [];
    cert = cert;
  });
}

abbrev glucose : CertValue → Document
glucose cert = record {
  sections = (record {
    line = 1;
    title = codes "Glucose";
    body = Solved (record {
      lists = (record { mz = 1810707000; intensity = 0; formulas = of_atoms 12 6 6 ∷ [] })
          ∷ (record { mz = 1630601000; intensity = 1000000; formulas = of_atoms 10 6 5 ∷ [] }) ∷ [];
      entries = glucose_entry cert ∷ [];
    });
  }) ∷ [];
  ending = Clean;
}

-- glucose with one fragment
glucose_lines : (cert : CertValue) → report_json_of (glucose cert)
    ≡ codes "{\"entries\":[{\"candidate\":\"C6H12O6\",\"error\":360,\"mark\":\"optimal\",\"rows\":["
    ++ codes "{\"formula\":\"C6H10O5\",\"loss\":\"H2O\",\"parent\":0,\"peak\":1,\"weight\":52}],\"score\":62,"
    ++ codes "\"upper\":62}],\"line\":1,\"peaks\":[{\"formulas\":1,\"mz\":1810707000},"
    ++ codes "{\"formulas\":1,\"mz\":1630601000}],\"title\":\"Glucose\"}\n{\"end\":\"clean\"}\n"
unfolding digits escape_byte
glucose_lines cert = refl

-- a title with a quote, a backslash, a tab, the last byte that is printed and two that are not
odd_title : section_json_of (record {
  line = 7;
  title = 97 ∷ 34 ∷ 92 ∷ 9 ∷ 126 ∷ 127 ∷ 255 ∷ [];
  body = Skipped (TooMany 5);
})
    ≡ codes "{\"line\":7,\"skip\":\"too-many 5\",\"title\":\"a\\\"\\\\x5c\\\\x09~\\\\x7f\\\\xff\"}\n"
unfolding digits escape_byte
odd_title = refl

-- a tree below its upper bound, with no row
gap : (cert : CertValue) → entry_json (record {
  candidate = of_atoms 2 0 1;
  error = 0;
  outcome = Tree (record { score = negsuc 2; upper = pos 4; mark = Gap; rows = []; cert = cert });
})
    ≡ codes "{\"candidate\":\"H2O\",\"error\":0,\"mark\":\"gap\",\"rows\":[],\"score\":-3,\"upper\":4}"
unfolding digits escape_byte
gap cert = refl

too_large : entry_json (record { candidate = of_atoms 0 0 0; error = 8; outcome = TooLarge 900 })
    ≡ codes "{\"candidate\":\"-\",\"error\":8,\"vertices\":900}"
unfolding digits escape_byte
too_large = refl

refused : ending_json_of (Refused (record { line = 3; kind = 5 }))
    ≡ codes "{\"end\":\"refused\",\"kind\":\"bad-peak\",\"line\":3}\n"
unfolding digits escape_byte
refused = refl
