-- The fields of the struct `Job` are the arrays that contracts see, and these are its fields.
use Rattle.job.specs.JobArrays.{JobArrays}
use Rattle.job.specs.declared.Job.TheInside.{Inside}

abbrev pub arrays_in : Inside → JobArrays
arrays_in a = record { n = a.n; limit = a.limit; tolerance = a.tolerance; k = a.k; dilutions = a.dilutions; counts = a.counts }

abbrev pub fields_of : JobArrays → Inside
fields_of a = record { n = a.n; limit = a.limit; tolerance = a.tolerance; k = a.k; dilutions = a.dilutions; counts = a.counts }
