use Rattle.transcript_model.proofs.NamedObjectLemmas.{fit_stream_at, certified_named, worth_named}
use Rattle.transcript_model.proofs.laws.certified_objects_have_names.Goals as goal

pub returns : goal.returns
returns c = λ task names place stream inputs outputs fit at le ins outs all_in all_out.
    let fits = fit_stream_at task place stream fit at in
    record {
      facts = certified_named names task stream inputs outputs fit fits le ins outs all_in all_out;
      values = λ value. worth_named names task stream inputs value fit fits le ins all_in;
    }
