use Rattle.image_table.proofs.LawLemmas.{of_images_apart}
use Rattle.image_table.proofs.laws.home_ranges_of_images_apart.Goals as goal

pub returns : goal.returns
returns c = of_images_apart
