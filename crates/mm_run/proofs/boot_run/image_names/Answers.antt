use Rattle.std.proofs.Common.{◌∙◌, ◌++◌, ◌∷◌, [], List, map, take, ap, arith}
use Rattle.mm_base.specs.declared.guid.Guid.{Guid}
use Rattle.mm_run.proofs.BootLemmas.{names_more}
use Rattle.mm_run.proofs.boot_run.image_names.Goals as goal

-- the name of one image more
pub loop-image-preserved : goal.loop-image-preserved
loop-image-preserved c =
    c.in_ok-push.ensures.ok ∙ ap (λ (all : List Guid). all ++ c.name.result ∷ []) c.loop-image.invariant
    ∙ ap (λ (name : Guid). map (λ image. image.name) (take c.loop-image.image c.args.core.now.site.supervised.images) ++ name ∷ []) c.name.ensures
    ∙ names_more c.args.core.now.site.supervised.images c.loop-image.image (omega (arith, c.loop-image-test.true, c.images-image-end.ensures))
