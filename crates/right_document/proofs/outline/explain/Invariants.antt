use Rattle.std.proofs.Common.{◌≡◌, ◌++◌, drop, map, take}
use Rattle.std.specs.List.{All, find}
use Rattle.loss_graph.specs.Lists.{IsList}
use Rattle.right_document.specs.RunSettings.{has_too_many, list_of_ion}
use Rattle.right_document.specs.SettingsOf.{settings_value_of}
use Rattle.right_document.specs.Outline.{outline_with, explained, lists_of}
use Rattle.right_document.proofs.outline.explain.Given as goal

abbrev pub invariant-loop-peak : goal.invariant-loop-peak
invariant-loop-peak g l = record {
  told : outline_with (find (has_too_many (settings_value_of l.settings))
      (map (λ peak. peak.mz) (drop l.peak-index l.selected)))
      (l.lists.items ++ map (λ peak. list_of_ion (settings_value_of l.settings) peak.mz peak.intensity)
      (drop l.peak-index l.selected))
      ≡ explained (settings_value_of l.settings) l.precursor l.selected;
  own : l.lists.items ≡ lists_of (settings_value_of l.settings) l.precursor (take l.peak-index l.selected);
  each : All (IsList l.settings.choice) l.lists.items;
}
