-- Defines the numbers by which a store keeps the stage of a loan line.
use Rattle.std.specs.Prelude.{ℕ}
use Rattle.posting_core.specs.declared.stage.LineStage.{LineStage}
use Rattle.posting_core.specs.declared.stage.LineStage.TheVariants.{Awaiting, Away, Back, Here}
use Rattle.posting_core.specs.declared.stage.LineStage.TheVariants.{GivenBack}

abbrev pub stage_number : LineStage → ℕ
stage_number Awaiting = 0
stage_number Away = 1
stage_number Back = 2
stage_number Here = 3
stage_number GivenBack = 4
