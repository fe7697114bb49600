-- The code's judgement in the words of the definitions.
use Rattle.definitions.specs.Matrix as D
use Rattle.definitions.specs.Matrix.{passed, fails}
use Rattle.chain.specs.declared.judge.Judgement.{Judgement}
use Rattle.chain.specs.declared.judge.Judgement.TheVariants.{Passed, Fails}

abbrev pub judgement_of : Judgement → D.Judgement
judgement_of Passed = passed
judgement_of (Fails k) = fails k
