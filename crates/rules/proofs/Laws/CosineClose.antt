-- THE BUILT-IN RECIPE IS CLOSE TO THE COSINE TRANSFORM: the test of `Cosine` computes. `CosineElements` has what it says of each
-- element.
use Rattle.std.specs.Prelude.{true, false, ◌≡◌, refl}
use Rattle.whole.specs.Stated.{sum}
use Rattle.rules.specs.Sheets.{kind_of, triangle}
use Rattle.rules.specs.Factors.{numbers, signs_at, above, entries_before, factor_at, factors_from, factors, has_entry, matrix}
use Rattle.rules.specs.Stages.{scale, fill, off, weighed, exact, through, exact_product, exact_scale}
use Rattle.rules.specs.Shapes.{stage_of, line_stage, line_stages}
use Rattle.rules.specs.Calls.{built_in, first_printing}
use Rattle.rules.specs.Cosine.{element, all, is_cosine}

-- the corrected table passes it, and the first printing does not
pub cosine : is_cosine built_in ≡ true
unfolding is_cosine all element exact_product exact_scale exact scale through fill off weighed sum factors factors_from factor_at
    numbers signs_at above entries_before triangle kind_of has_entry matrix stage_of line_stage line_stages
cosine = refl

pub misprinted : is_cosine first_printing ≡ false
unfolding is_cosine all element exact_product exact_scale exact scale through fill off weighed sum factors factors_from factor_at
    numbers signs_at above entries_before triangle kind_of has_entry matrix stage_of line_stage line_stages
misprinted = refl
