-- What a tick is given, as the specification's environment.
use Rattle.model.specs.State as model-state
use Rattle.eval.specs.Answers.{env_in}
use Rattle.wheel.specs.declared.Env.{Env}

abbrev pub env_of : Env → model-state.Env
env_of e = env_in e.snapshot.now e.image.now
