use Rattle.std.proofs.Common.{refl, ◌∙◌}
use Rattle.pe_loader.proofs.ImageLemmas.{laid_out_of, size_of}
use Rattle.pe_loader.proofs.LoadedLemmas.{laid_by_image, front_is_window, front_shows_plain, read_of, applied_is_loaded}
use Rattle.pe_loader.proofs.placing.place.Goals as goal

pub lay_out-requires-clause-laid_out : goal.lay_out-requires-clause-laid_out
lay_out-requires-clause-laid_out c =
    let is = c.requires.image.1 in
    laid_by_image c.args.bytes.now c.args.image.now c.of_image.result is.says c.of_image.ensures (laid_out_of c.args.bytes.now is.passes)

pub lay_out-requires-clause-window : goal.lay_out-requires-clause-window
lay_out-requires-clause-window c = front_is_window c.args.bytes.now c.of_image.result c.front.result c.front.ensures

pub apply_all-requires : goal.apply_all-requires
apply_all-requires c =
    let is = c.requires.image.1 in
    let long = c.lay_out.ensures.length ∙ c.requires.size ∙ size_of c.args.bytes.now c.args.image.now is.says in
    let plain = front_shows_plain c.args.bytes.now c.lay_out.new.room c.args.image.now c.of_image.result c.front.result is.says c.of_image.ensures c.front.ensures long c.lay_out.ensures.shows in
    read_of c.args.bytes.now c.args.image.now c.requires.image.0 c.lay_out.new.room is plain

pub returns-clause-value : goal.returns-clause-value
returns-clause-value c = λ fixups is.
    let says = c.requires.image.1.says in
    let long = c.lay_out.ensures.length ∙ c.requires.size ∙ size_of c.args.bytes.now c.args.image.now says in
    let plain = front_shows_plain c.args.bytes.now c.lay_out.new.room c.args.image.now c.of_image.result c.front.result says c.of_image.ensures c.front.ensures long c.lay_out.ensures.shows in
    applied_is_loaded c.args.bytes.now c.args.image.now c.lay_out.new.room c.apply_all.new.out c.args.base _ plain refl
    c.apply_all.ensures fixups is

pub returns-clause-stands : goal.returns-clause-stands
returns-clause-stands c =
    let is = c.requires.image.1 in
    let says = is.says in
    let long = c.lay_out.ensures.length ∙ c.requires.size ∙ size_of c.args.bytes.now c.args.image.now says in
    let plain = front_shows_plain c.args.bytes.now c.lay_out.new.room c.args.image.now c.of_image.result c.front.result says c.of_image.ensures c.front.ensures long c.lay_out.ensures.shows in
    let made =
    applied_is_loaded c.args.bytes.now c.args.image.now c.lay_out.new.room c.apply_all.new.out c.args.base _ plain refl
    c.apply_all.ensures c.requires.image.0 is in
    record { image = c.args.image.now; fixups = c.requires.image.0; of = is; is = made }
