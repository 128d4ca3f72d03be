-- What files are accepted as that are run.
use Rattle.waff_assign.specs.Instance.{Instance}
use Rattle.waff_assign.specs.Lowest.{IsAssignment}
use Rattle.waff_inputs.specs.Inputs.{instance_under}
use Rattle.waff_run.specs.Files.{Job}
use Rattle.waff_run.specs.Opening.{job_of}
use Rattle.waff_run.specs.Places.{Placing}
use Rattle.waff_run.specs.declared.run_files.RunFiles.{RunFiles}

-- the instance
abbrev pub instance_in : RunFiles → Instance
instance_in files =
    instance_under files.accepted.now.layout files.accepted.now.assigned files.accepted.now.trace

-- what its messages are assigned is right
abbrev pub IsAssigned : RunFiles → Type 0
IsAssigned files =
    IsAssignment files.accepted.now.layout files.accepted.now.trace.messages
    files.accepted.now.assigned

-- the job of a run of them, where cells lie like this
abbrev pub job_in : RunFiles → Placing → Job
job_in files placing =
    job_of files.accepted.now.layout placing files.accepted.now.trace
