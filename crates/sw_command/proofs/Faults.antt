-- Faults that clap finds in words.
use Rattle.std.proofs.Common.{◌≡◌, false, [], ◌∷◌, inl, inr, refl}
use Rattle.clap.specs.Words.{HasKind, Kinds, kind_of}
use Rattle.clap.specs.declared.error.Error.{Error}
use Rattle.clap.specs.declared.error.kind.ErrorKind.TheVariants.{OutOfMemory}
use Rattle.sw_command.specs.Words.{is_none}

-- an error that is no want of memory is one of them
pub some_fault : (kinds : Kinds) (error : Error) → HasKind kinds error → ¬ (kind_of error ≡ OutOfMemory) → false ≡ is_none kinds
some_fault [] error (inl wants) other = absurd (other wants)
some_fault [] error (inr among) other = absurd among
some_fault (kind ∷ kinds) error has other = refl
