use Rattle.std.proofs.Common.{◌≡◌, ◌⊎◌, sym, ◌∙◌, subst}
use Rattle.volume_reader.specs.declared.file_state.FileState.{FileState}
use Rattle.volume_reader.specs.declared.file_state.FileState.TheVariants.{DataValid, MarkedForUpdate}
use Rattle.volume_reader.proofs.AreaLemmas.{finds_counting}
use Rattle.volume_reader.proofs.area.Area.find.Goals as goal

pub returns-in-DataValid : goal.returns-in-DataValid
returns-in-DataValid c =
    let P : FileState → Type 0 = λ state. (state ≡ DataValid) ⊎ (state ≡ MarkedForUpdate) in
    finds_counting c.args.self.now c.args.at _ (sym c.has_room.ensures ∙ c.if-not-has_room.false) (subst P c.state_at.ensures c.in-DataValid.is) c.file_found-in-DataValid.ensures
