-- The contracts of what C calls follow from the session's, answer by answer.
use Rattle.definitions.specs.Matrix as D

abbrev pub itself : D.Figures → D.Figures
itself F = F
