-- Where sheets stand on what was found, as structs of the code. Assumes nothing.
use Rattle.fdfa.specs.Family.{Fdfa}
use Rattle.fdfa.specs.Enumeration.{Witness}
use Rattle.fdfa.specs.Inclusion as model
use Rattle.fdfa.specs.Inclusion.{standing}
use Rattle.standing.specs.declared.Standing.{Standing}
use Rattle.standing.specs.declared.Standings.{Standings}

abbrev pub standing_of : model.Standing → Standing
standing_of s = record { waits = s.waits; ends = s.ends }

abbrev pub standings_of : Fdfa → Fdfa → Witness → Standings
standings_of F G w = record { first = standing_of (standing F w); second = standing_of (standing G w) }
