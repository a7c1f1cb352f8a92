-- `AreOwnLists`: the lists of a precursor and of peaks that stand apart.
use Rattle.std.proofs.Common.{◌≡◌, ◌<◌, ℕ, List, map, sym, subst, arith}
use Rattle.std.specs.List.{All}
use Rattle.std.proofs.lemmas.List.{length-map}
use Rattle.std.proofs.lemmas.List.Elements.{All-map}
use Rattle.adducts.specs.Selected.{AreApart, LiesBelow, StandApart}
use Rattle.element_table.specs.FormulaList.{FormulaListValue}
use Rattle.loss_graph.specs.Lists.{ArePeakLists, IsList}
use Rattle.mgf_reader.specs.Spectrum.{PeakValue}
use Rattle.right_document.specs.Outline.{lists_of}
use Rattle.right_document.specs.RunSettings.{RunSettingsValue, list_of_ion}
use Rattle.right_document.specs.Outlines.{AreOwnLists}
use Rattle.right_document.proofs.AllPairs.{AllPairs-map}

pub own_lists : (settings : RunSettingsValue) (precursor : ℕ) (peaks selected : List PeakValue)
    (lists : List FormulaListValue)
    → lists ≡ lists_of settings precursor selected → All (IsList settings.choice) lists
    → StandApart settings.choice precursor peaks selected → AreOwnLists settings.choice lists
own_lists settings precursor peaks selected lists is each apart =
    subst (AreOwnLists settings.choice) (sym is) (of_these (subst (All (IsList settings.choice)) is each))
  where
    list_of : PeakValue → FormulaListValue
    list_of peak = list_of_ion settings peak.mz peak.intensity

    peak_lists : ArePeakLists settings.choice precursor (map list_of selected)
    peak_lists = record {
      falling = AllPairs-map (λ one later. later.mz < one.mz) list_of selected apart.falling;
      apart = AllPairs-map (λ one later. AreApart settings.choice one.mz later.mz) list_of selected apart.apart;
      below = All-map (λ list. LiesBelow settings.choice list.mz precursor) list_of selected apart.below;
      intense = All-map (λ list. 0 < list.intensity) list_of selected apart.intense;
    }

    of_these : All (IsList settings.choice) (lists_of settings precursor selected)
        → AreOwnLists settings.choice (lists_of settings precursor selected)
    of_these lists_each = record {
      some = omega arith;
      few = omega (arith, apart.few, length-map selected list_of);
      each = lists_each;
      roots = λ fewer root holds. record
          { some = omega arith; few = fewer; each = lists_each; holds_root = holds; peaks = peak_lists };
    }
