mod SampleLaws
