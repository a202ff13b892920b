use Rattle.std.proofs.Common.{◌-◌, length, not, rules, subst, sym, ap, ◌∙◌}
use Rattle.std.specs.Map.{values_of}
use Rattle.protocol_db.specs.CountsInside.{AreCounts, count_in}
use Rattle.protocol_db.specs.Rows.{is_owned_by, owned_by, rows_of, without_owner}
use Rattle.protocol_db.proofs.CountLemmas.{AreCounts-without}
use Rattle.protocol_db.proofs.KeyLemmas.{AreKeyed-retained, values-retained}
use Rattle.protocol_db.proofs.row_map.RowMap.remove_owner.Goals as goal

pub invariant_of-self : goal.invariant_of-self
invariant_of-self c = record {
  keyed = AreKeyed-retained _ (λ row. not (is_owned_by c.args.owner row)) _ (λ k v b w g call. search rules) c.self.inside.rows.entries
      c.retain.new.self.entries c.retain.ensures.filtered c.self.invariant.keyed;
  counted = subst (AreCounts c.take_owned.new.self)
      (sym (values-retained _ (λ row. not (is_owned_by c.args.owner row)) _ (λ k v b w g call. search rules) c.self.inside.rows.entries
      c.retain.new.self.entries c.retain.ensures.filtered))
      (AreCounts-without c.self.inside.guids c.take_owned.new.self (values_of c.self.inside.rows.entries) c.args.owner c.self.invariant.counted
      (λ guid. c.take_owned.ensures guid
      ∙ ap (λ rows. count_in guid c.self.inside.guids - length (rows_of guid (owned_by c.args.owner rows))) (c.as_slice.ensures ∙ c.values.ensures.rest)));
}

pub returns : goal.returns
returns c =
    values-retained _ (λ row. not (is_owned_by c.args.owner row)) _ (λ k v b w g call. search rules) c.self.inside.rows.entries
    c.retain.new.self.entries c.retain.ensures.filtered
    ∙ ap (without_owner c.args.owner) c.self.view_is
