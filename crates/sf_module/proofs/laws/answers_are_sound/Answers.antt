use Rattle.sf_module.proofs.HomologyAnswers.{homology_sound}
use Rattle.sf_module.proofs.ModuleAnswers.{cokernel_sound, image_sound, kernel_sound}
use Rattle.sf_module.proofs.laws.answers_are_sound.Goals as goal

pub returns : goal.returns
returns c = record { homology = homology_sound; kernel = kernel_sound; image = image_sound; cokernel = cokernel_sound }
