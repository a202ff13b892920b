use Rattle.pe_loader.proofs.ImageLemmas.{either, never_both, one_image, one_fault}
use Rattle.pe_loader.proofs.laws.image_or_fault.Goals as goal

pub returns : goal.returns
returns c = record {
  either = either;
  never_both = never_both;
  one_image = one_image;
  one_fault = one_fault;
}
