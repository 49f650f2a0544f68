-- How names are hashed. No public clause cites this module.
use Rattle.std.specs.Prelude.{Option, None, Some}
use Rattle.std.specs.Hash.DefaultHasher.{initial}
use Rattle.std.specs.declared.hash.DefaultHasher.{DefaultHasher}
use Rattle.std.specs.RandomState.{initial_hasher}
use Rattle.std.specs.declared.random_state.RandomState.{RandomState}

abbrev pub hasher_by : Option RandomState → DefaultHasher
hasher_by None = initial
hasher_by (Some keys) = initial_hasher keys
