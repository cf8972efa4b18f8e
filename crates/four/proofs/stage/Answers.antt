-- Each arm is the stage of its kind.
use Rattle.std.proofs.Common.{rules, ◌≡◌, sym, ◌∙◌, ◌+◌, length}
use Rattle.factor.specs.Rounding.{rule_by}
use Rattle.four.specs.Stages.{moved-is, lower-is, upper_is, single-is}
use Rattle.four.specs.TurnLaws.{factor-in, became-is}
use Rattle.laws.specs.Accepted.{entries_of, never, row_is, row_counts}
use Rattle.laws.specs.Readers.{Seen}
use Rattle.rules.specs.Factors.{signs_at}
use Rattle.rules.specs.Numbers.{count}
use Rattle.rules.specs.Sheets.{kind_of, triangle}
use Rattle.rules.specs.declared.Item.TheVariants.{Row}
use Rattle.rules.specs.declared.Kind.TheVariants.{Lower, Upper, Single}
use Rattle.rules.specs.declared.Rule.{Rule}
use Rattle.four.proofs.stage.Given.{Over}
use Rattle.four.proofs.stage.Goals as goal
use Rattle.four.proofs.stage.Goals.{In-Single, Start}

module _ (g : Over) (s : Start g) where
  -- the rule of the two tests
  abbrev K : Rule
  K = rule_by s.args.down s.args.even

  len : length s.args.x ≡ 4
  len = search rules

pub returns-in-Permutation : goal.returns-in-Permutation
returns-in-Permutation g c =
    became-is (moved-is (K g (goal.at.returns-in-Permutation g c).Start) _ c.args.sheet.now c.args.i c.args.x
    (sym c.kind_at.ensures ∙ c.in-Permutation.is)) c.moved.ensures

pub lower-requires : goal.lower-requires
unfolding signs_at entries_of triangle
lower-requires g c = (
  factor-in c.requires.0 Lower (λ e. never (cc)) (sym c.kind_at.ensures ∙ c.in-Lower.is),
  c.requires.1,
)

pub returns-in-Lower : goal.returns-in-Lower
returns-in-Lower g c =
    let s = (goal.at.returns-in-Lower g c).Start in
    became-is (lower-is (K g s) _ c.args.sheet.now c.args.i c.args.x (len g s) (sym c.kind_at.ensures ∙ c.in-Lower.is))
    c.lower.ensures

pub upper-requires : goal.upper-requires
unfolding signs_at entries_of triangle
upper-requires g c = (
  factor-in c.requires.0 Upper (λ e. never (cc)) (sym c.kind_at.ensures ∙ c.in-Upper.is),
  c.requires.1,
)

pub returns-in-Upper : goal.returns-in-Upper
returns-in-Upper g c =
    let s = (goal.at.returns-in-Upper g c).Start in
    became-is (upper_is (K g s) _ c.args.sheet.now c.args.i c.args.x (len g s) (sym c.kind_at.ensures ∙ c.in-Upper.is))
    c.upper.ensures

module _ (g : Over) (c : In-Single g) where
  -- its kind, and its row
  kind : kind_of (count c.args.sheet.now c.args.i) ≡ Single
  kind = sym c.kind_at.ensures ∙ c.in-Single.is

  row : Seen c.args.sheet.now (Row 4) (c.args.i + 1)
  row = c.requires.0.body.row kind

pub count_at-requires : goal.count_at-requires
count_at-requires g c = row_counts (row g (goal.at.count_at-requires g c).In-Single)

pub single-requires : goal.single-requires
unfolding signs_at entries_of
single-requires g c =
    let w = (goal.at.single-requires g c).In-Single in (
      factor-in c.requires.0 Single (λ e. never (cc)) (kind g w),
      rw c.count_at.ensures (row_is (row g w)).1,
      c.requires.1,
    )

pub returns-in-Single : goal.returns-in-Single
returns-in-Single g c =
    let s = (goal.at.returns-in-Single g c).Start in
    let w = (goal.at.returns-in-Single g c).In-Single in
    became-is (single-is (K g s) _ c.args.sheet.now c.args.i c.args.x (len g s) (kind g w) _
    (rw c.count_at.ensures (row_is (row g w)).1) (sym c.count_at.ensures)) c.single.ensures
