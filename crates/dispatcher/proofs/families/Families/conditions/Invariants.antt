use Rattle.std.proofs.Common.{◌≡◌, filter, take, All}
use Rattle.dispatcher.specs.FamiliesInside.{HasConditionAt, has_condition, picked}
use Rattle.dispatcher.proofs.families.Families.conditions.Given as goal

abbrev pub invariant-loop-place : goal.invariant-loop-place
invariant-loop-place l = record {
  items : picked l.self.drivers.now l.places.items ≡ filter has_condition (take l.place l.self.drivers.now);
  each : All (HasConditionAt l.self.drivers.now) l.places.items;
}
